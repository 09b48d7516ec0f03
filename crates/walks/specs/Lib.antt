-- `Walk`: graph, link, walk. `Marks`: sets of pairs, as tests (`Plain`) and as one set of jobs for each database (`Rows`).
-- `Machine`: the opening search as document 01 defines it, over `First`. `Search`: the nested form; `Opening`: as an opening uses it.
-- `Engine`: any other way to do it. `Promise`: all that is promised.
pub mod Walk
pub mod Marks
pub mod Plain
pub mod Rows
pub mod First
pub mod Machine
pub mod Search
pub mod Opening
pub mod Engine
pub mod Promise
