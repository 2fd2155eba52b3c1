mod Fits
mod Rooms
