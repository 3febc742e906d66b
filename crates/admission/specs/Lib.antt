pub mod Refusal
pub mod Contents
pub mod Admit
