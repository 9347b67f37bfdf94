pub mod Listed
mod Words
mod Lines
mod Raw
