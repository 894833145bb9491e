pub mod ClauseSuits
pub mod FunctionSorts
pub mod Growing
pub mod Inputs
pub mod Names
pub mod WhatIsSaid
