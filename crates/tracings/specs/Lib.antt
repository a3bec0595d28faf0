-- Traced points: their squares, and the smallest disk that holds every possible tracing (02, item 7).
pub mod Squares
pub mod Tracings
