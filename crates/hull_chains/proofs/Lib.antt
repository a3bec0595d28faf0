pub mod Spanning
