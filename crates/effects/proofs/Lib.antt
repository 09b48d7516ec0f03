-- `Bounds`: where a view can be true. `Tests`, `Holder`: what the tests and choices of the calls say in views.
-- `Sized`, `Stores`, `Rows`, `Strike`: the tables' lists, after a store and after a loop of stores.
-- `Fresh`, `Marks`, `Release`, `Enter`, `Found`, `Remove`: what every view says after each small change of the tables.
pub mod Bounds
pub mod Tests
pub mod Holder
pub mod Sized
pub mod Stores
pub mod Rows
pub mod Strike
pub mod Fresh
pub mod Marks
pub mod Release
pub mod Enter
pub mod Found
pub mod Remove
