-- What private contracts alone say of the code. Nothing public rests on this.
pub mod AmongClauses
pub mod Beside
pub mod CoverFound
pub mod EqFactorSearch
pub mod FirstFrom
pub mod NormRule
pub mod Outline
pub mod ParamodulationSearch
pub mod ResolutionSearch
pub mod RewriteSearch
pub mod SiteSearch
pub mod SlotFits
