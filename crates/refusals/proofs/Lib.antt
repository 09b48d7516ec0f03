-- `Rows`: going down the rows of a table of refusals. `Passed`: what a call knows that no row refuses.
pub mod Rows
pub mod Passed
