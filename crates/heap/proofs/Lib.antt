pub mod SpanLaws
pub mod HeapLaws
pub mod SolutionLaws
pub mod Chains
pub mod Denotes
pub mod PushLaws
pub mod StampLaws
pub mod MarkLaws
