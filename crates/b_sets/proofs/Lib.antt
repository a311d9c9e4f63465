pub mod RowLaws
pub mod CoupleLaws
pub mod IntervalLaws
