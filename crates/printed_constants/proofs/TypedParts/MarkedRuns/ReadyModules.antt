-- Modules that read are programs in which steps over constants settle their files: definitions and laws alone, without
-- code (Go specification, Packages; Import declarations; Package clause).
pub mod Typed
pub mod Read
