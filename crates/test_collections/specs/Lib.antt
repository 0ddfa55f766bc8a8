pub mod InMaps
pub mod InStdMaps
