-- `Change`, `Words`: the digits of a set that is changed, and the code's operations; of one digit, std's `Nat.Bits` says more. `Narrow`: those in a word that has room for more digits. `Holds`: what a set holds after a change. `Equal`: sets told by their members.
-- `Lowest`, `Size`, `Walking`, `Gather`: the lowest member, how many, walking them, gathering a set. `Union`: a union over an index.
pub mod Change
pub mod Words
pub mod Narrow
pub mod Holds
pub mod Equal
pub mod Lowest
pub mod Size
pub mod Walking
pub mod Gather
pub mod Union
