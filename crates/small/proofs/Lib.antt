-- Laws that the function's proof uses.
mod Parts
