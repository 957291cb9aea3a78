pub mod CutPlans
pub mod CuttingAnew
pub mod private
