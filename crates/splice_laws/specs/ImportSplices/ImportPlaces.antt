pub mod ReadFiles
