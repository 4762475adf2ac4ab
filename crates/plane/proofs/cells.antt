-- Laws of cells and of boxes in their order.
pub mod CellCases
pub mod CellCode
pub mod CellLaws
pub mod CellOrder
pub mod CellHalving
pub mod CellWords
