pub mod Searchable
