pub mod WidestStretch
