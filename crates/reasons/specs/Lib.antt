-- Which facts made a packet from the cell be dropped, and what is told of it.
pub mod Reasons
pub mod Explanations
