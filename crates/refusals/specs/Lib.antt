-- What a call is told, and tables of refusals: as they are judged, and in words.
pub mod Refusals
pub mod Reply
pub mod Table
