-- How far a search at places with equations has come, by any rule that changes a clause so.
use Rattle.std.specs.Prelude.{ℕ, ◌≡◌, List, Option, Some, slice_get}
use Rattle.std.specs.Option.{MatchOption}
use Rattle.clause_rules.specs.declared.just.Just.{Just}
use Rattle.rule_steps.specs.declared.sites.Reading.{Reading}
use Rattle.rule_steps.specs.declared.sites.Site.{Site}

-- there is none at this site with any of the readings
abbrev pub NeverWith : (Site → Reading → Type 0) → List Reading → Site → Type 0
NeverWith Never readings site = (k : ℕ) (reading : Reading) → slice_get readings k ≡ Some reading → Never site reading

-- there is none at any of the sites with any of the readings
abbrev pub NeverAmong : (Site → Reading → Type 0) → List Site → List Reading → Type 0
NeverAmong Never sites readings = (m : ℕ) (site : Site) → slice_get sites m ≡ Some site → NeverWith Never readings site

-- a justification that shows the rule, or there is none
abbrev pub FoundWith : (Site → Reading → Type 0) → (Just → Type 0) → List Reading → Site → Option Just → Type 0
FoundWith Never Shows readings site found = MatchOption found (NeverWith Never readings site) Shows

abbrev pub FoundAmong : (Site → Reading → Type 0) → (Just → Type 0) → List Site → List Reading → Option Just → Type 0
FoundAmong Never Shows sites readings found = MatchOption found (NeverAmong Never sites readings) Shows
