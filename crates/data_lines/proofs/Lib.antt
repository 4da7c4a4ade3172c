mod NumberSectors
mod HexSectors
mod Ranges
