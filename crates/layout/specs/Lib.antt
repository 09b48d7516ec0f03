-- A text put into a buffer: `Put`. Numbers as bytes: `Bytes`.
pub mod Put
pub mod Bytes
