-- Reading: what is read of the objects that names mean
pub mod Reading
