-- `Search`: a turn of the search for a free number. `First`: what the search finds is the first free number, and there is one only.
pub mod Search
pub mod First
