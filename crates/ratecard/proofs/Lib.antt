pub mod ArrayMaps
