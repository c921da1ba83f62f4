mod Parts
mod Widths
