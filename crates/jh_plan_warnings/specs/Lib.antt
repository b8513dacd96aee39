pub mod Warnings
