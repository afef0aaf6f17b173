mod Parts
mod Stay
