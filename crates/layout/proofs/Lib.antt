-- A text put into a buffer, and others after it: `Put`. One number as bytes, written and read: `Number`. Many: `Numbers`. There and back: `Back`.
pub mod Put
pub mod Number
pub mod Numbers
pub mod Back
