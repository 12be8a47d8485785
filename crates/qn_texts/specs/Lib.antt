pub mod PlanTexts
pub mod SummaryTexts
