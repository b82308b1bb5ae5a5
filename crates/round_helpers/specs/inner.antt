pub mod Works
pub mod Pieces
pub mod Equipment
pub mod Seats
pub mod Teams
