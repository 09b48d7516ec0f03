-- `Member`: sets and their members. `Lowest`: the lowest member, the lowest that is missing. `Members`: walking a set, gathering one, a union.
pub mod Member
pub mod Lowest
pub mod Members
