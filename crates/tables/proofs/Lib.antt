-- `Testing`: the test for soundness, as the code makes it, is the definition's. `Owning`: each open slot has a ticket of its own.
-- `Quiet`: a database where nothing may go before anything.
pub mod Testing
pub mod Owning
pub mod Quiet
