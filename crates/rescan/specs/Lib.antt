pub mod Rescan
