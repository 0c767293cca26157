mod Pieces
-- Tallies: what a device has counted after one more call
mod Tallies
