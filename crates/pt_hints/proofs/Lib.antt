-- Ends: lists that are equal at both ends
mod Ends
