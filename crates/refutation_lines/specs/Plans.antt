-- What the lines of a derivation are made from, by the members that the refutation needs.
use Rattle.std.specs.Prelude.{ℕ, Bool, List, length, get_or}
use Rattle.clause_form.specs.declared.clause.Clause.{Clause}
use Rattle.sort_check.specs.declared.line.GivenEntry.{GivenEntry}
use Rattle.saturation.specs.declared.member.Member.{Member}
use Rattle.given_parts.specs.Numbers.{firsts_from, numbers_from}
use Rattle.given_parts.specs.Owners.{owners_from}
use Rattle.given_parts.specs.Parts.{parts_of}
use Rattle.refutation_lines.specs.declared.plan.Plan.{Plan}
use Rattle.refutation_lines.specs.Needs.{printed_inputs, used_parts}
use Rattle.refutation_lines.specs.Places.{ranks_from, places_from}

-- given formulas, their clauses, a list of members, and the further one, which is empty; new functions have numbers from
-- the first on
pub record Refutation : Type 0 where
  pub given : List GivenEntry
  pub first : ℕ
  pub inputs : List Clause
  pub members : List Member
  pub last : Member

abbrev pub refutation : List GivenEntry → ℕ → List Clause → List Member → Member → Refutation
refutation given first inputs members last = record { given = given; first = first; inputs = inputs; members = members; last = last }

abbrev pub owners_in : Refutation → List ℕ
owners_in r = owners_from 0 (parts_of r.given)

abbrev pub printed_in : Refutation → List Bool → List Bool
printed_in r needed = printed_inputs needed r.members (length r.inputs)

abbrev pub used_in : Refutation → List Bool → List Bool
used_in r needed = used_parts (owners_in r) (printed_in r needed) r.last.origin (length r.given)

abbrev pub ranks_in : Refutation → List Bool → List ℕ
ranks_in r needed = ranks_from 0 (printed_in r needed)

-- the needed members that are inferred stand behind the inputs
abbrev pub places_in : Refutation → List Bool → List ℕ
places_in r needed = places_from (ranks_in r needed) (get_or (ranks_in r needed) (length r.inputs) 0) needed r.members

abbrev pub plan_of : Refutation → List Bool → Plan
plan_of r needed = record {
  parts = parts_of r.given;
  owners = owners_in r;
  needed = needed;
  printed = printed_in r needed;
  used = used_in r needed;
  ranks = ranks_in r needed;
  places = places_in r needed;
  first = r.first;
  numbers = record { firsts = firsts_from r.first (used_in r needed) (parts_of r.given); all = numbers_from r.first (used_in r needed) (parts_of r.given) };
}
