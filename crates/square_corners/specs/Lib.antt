-- of inner contracts
pub mod Laying
