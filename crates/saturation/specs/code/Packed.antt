-- What a member that waits says.
use Rattle.clause_form.specs.declared.clause.Clause.{Clause}
use Rattle.saturation.specs.declared.member.Member.{Member}
use Rattle.saturation.specs.declared.member.Origin.{Origin}
use Rattle.saturation.specs.declared.member.Origin.TheVariants.{Input, Inferred}
use Rattle.saturation.specs.declared.waiting.Source.{Source}
use Rattle.saturation.specs.declared.waiting.Source.TheVariants.{Given, Made}

abbrev pub origin_of : Source → Origin
origin_of (Given i) = Input i
origin_of (Made a b images) = Inferred a b images

abbrev pub member_of : Clause → Source → Member
member_of c s = record { clause = c; origin = origin_of s }
