-- The lines of each kind, their names and what they are from.
use Rattle.std.specs.Prelude.{ℕ, ◌≡◌, ◌⊎◌, ◌<◌, ◌+◌, ◌^◌, ◌==◌, Bool, true, false, if◌then◌else◌, List, [], ◌∷◌, ◌++◌, length, get_or, Some, slice_get, refl}
use Rattle.std.specs.List.{list_any}
use Rattle.std.proofs.Common.{ap, sym, ◌∙◌, arith, inl, inr, eq-eqb}
use Rattle.std.proofs.lemmas.Bool.{or_left, or_right}
use Rattle.std.proofs.lemmas.List.Folds.{list_any-append, list_any_at}
use Rattle.std.proofs.lemmas.List.FromFn.{length-map-range_with_len, get_or-map-range_with_len}
use Rattle.std.proofs.lemmas.Option.{slice_get_within, slice_get-get_or, get_or_from_slice_get}
use Rattle.inference_proofs.proofs.Kept.{Has}
use Rattle.clause_form.specs.declared.clause.Clause.{Clause}
use Rattle.sort_check.specs.declared.line.GivenEntry.{GivenEntry}
use Rattle.saturation.specs.declared.member.Member.{Member}
use Rattle.saturation.specs.declared.member.Origin.{Origin}
use Rattle.saturation.specs.declared.member.Origin.TheVariants.{Input, Inferred}
use Rattle.search_proofs.specs.Needed.{AreNeeded, IsMarked}
use Rattle.derivation_items.specs.declared.line.ProofLine.{ProofLine}
use Rattle.given_parts.specs.declared.part.Part.{Part}
use Rattle.given_parts.specs.Chosen.{chosen_from}
use Rattle.refutation_lines.specs.declared.plan.Plan.{Plan}
use Rattle.refutation_lines.specs.Lines.{given_lines, skolem_line, skolem_lines, input_lines, inferred_lines, lines_of_member, clause_line, source_of_parents}
use Rattle.refutation_lines.specs.Names.{given_name, skolem_name, clause_name, has_some}
use Rattle.refutation_lines.specs.Needs.{each_below, is_input, prints_input, uses_part, owner_of}
use Rattle.refutation_lines.specs.Places.{is_inferred}
use Rattle.refutation_lines.specs.Plans.{Refutation, owners_in, printed_in, used_in}
use Rattle.derivation_order.proofs.Chosen.{has_given}
use Rattle.derivation_order.proofs.Naming.{only_line}

-- ---- their names

pub given_is : (k : ℕ) (g : GivenEntry) (l : ProofLine) → Has (given_lines k g) l → l.name ≡ given_name k
given_is k g l h = ap (λ (x : ProofLine). x.name) (sym (only_line _ l h))

pub skolem_is : (firsts : List ℕ) (k : ℕ) (p : Part) (l : ProofLine) → Has (skolem_lines firsts k p) l → l.name ≡ skolem_name k
skolem_is firsts k p l h = by (has_some p.existentials) h
  where
    by : (b : Bool) → Has (if b then skolem_line firsts k p ∷ [] else []) l → l.name ≡ skolem_name k
    by true g = ap (λ (x : ProofLine). x.name) (sym (only_line (skolem_line firsts k p) l g))
    by false g = cc

pub input_is : (p : Plan) (i : ℕ) (c : Clause) (l : ProofLine) → Has (input_lines p i c) l → l.name ≡ clause_name (get_or p.ranks i 0)
input_is p i c l h = ap (λ (x : ProofLine). x.name) (sym (only_line _ l h))

pub member_is : (p : Plan) (j : ℕ) (m : Member) (l : ProofLine) → Has (inferred_lines p j m) l → (l.name ≡ clause_name (get_or p.places j 0)) × (is_inferred m.origin ≡ true)
member_is p j m l h = by m.origin h
  where
    by : (o : Origin) → Has (lines_of_member p j m.clause o) l → (l.name ≡ clause_name (get_or p.places j 0)) × (is_inferred o ≡ true)
    by (Input i) g = cc
    by (Inferred a b images) g = (ap (λ (x : ProofLine). x.name) (sym (only_line _ l g)), refl)

pub has_member : (p : Plan) (j : ℕ) (m : Member) → is_inferred m.origin ≡ true → (l : ProofLine) × Has (inferred_lines p j m) l × (l.name ≡ clause_name (get_or p.places j 0))
has_member p j m inferred = by m.origin inferred
  where
    by : (o : Origin) → is_inferred o ≡ true → (l : ProofLine) × Has (lines_of_member p j m.clause o) l × (l.name ≡ clause_name (get_or p.places j 0))
    by (Input i) e = absurd (cc)
    by (Inferred a b images) e = (clause_line p (get_or p.places j 0) m.clause (source_of_parents p a b), (0, refl), refl)

-- ---- marks

below_at : (f : ℕ → Bool) (n k : ℕ) → k < n → f k ≡ true → slice_get (each_below f n) k ≡ Some true
below_at f n k lt e =
    let long : length (each_below f n) ≡ n = length-map-range_with_len f 0 n in
    let within : k < length (each_below f n) = omega arith in
    let same : 0 + k ≡ k = omega arith in
    slice_get-get_or (each_below f n) k false within ∙ ap Some (get_or-map-range_with_len f 0 n k k false lt same ∙ e)

any_in : {X : Type 0} (p : X → Bool) (xs : List X) (x : X) → Has xs x → p x ≡ true → list_any p xs ≡ true
any_in p xs x h e = list_any_at p xs h.0 x (slice_get_within xs h.0 x h.1) (ap p (get_or_from_slice_get xs h.0 x x h.1) ∙ e)

-- what the origin names stands before that number
abbrev pub Reaches : Refutation → ℕ → Origin → Type 0
Reaches r n (Input i) = i < length r.inputs
Reaches r n (Inferred a b images) = (a < n) × (b < n)

-- there is a mark and an owner for each
pub record IsSound (r : Refutation) (needed : List Bool) : Type 0 where
  pub are : AreNeeded r.members r.last needed
  pub few_given : length r.given < 2 ^ 64
  pub few_clauses : length r.inputs + length r.members < 2 ^ 64
  pub owned : length (owners_in r) ≡ length r.inputs
  pub owners : (i o : ℕ) → slice_get (owners_in r) i ≡ Some o → o < length r.given
  pub members : (j : ℕ) (m : Member) → slice_get r.members j ≡ Some m → Reaches r j m.origin
  pub last : Reaches r (length r.members) r.last.origin

module _ (r : Refutation) (needed : List Bool) (s : IsSound r needed) where
  -- an input that is a needed member is printed
  pub input_printed : (j n : ℕ) (m : Member) → IsMarked needed j → slice_get r.members j ≡ Some m → m.origin ≡ Input n → n < length r.inputs → slice_get (printed_in r needed) n ≡ Some true
  input_printed j n m marked there e lt =
      let same : 0 + j ≡ j = omega arith in
      below_at (prints_input needed r.members) (length r.inputs) n lt
      (any_in (is_input n) (chosen_from 0 (λ (i : ℕ) (x : Member). x.origin ∷ []) needed r.members) m.origin
      (has_given (λ (i : ℕ) (x : Member). x.origin ∷ []) 0 needed r.members j m m.origin marked there (0, refl))
      (ap (is_input n) e ∙ eq-eqb n n refl))

  owner_at : (i : ℕ) → i < length r.inputs → slice_get (owners_in r) i ≡ Some (get_or (owners_in r) i 0)
  owner_at i lt =
      let count = s.owned in
      let within : i < length (owners_in r) = omega arith in
      slice_get-get_or (owners_in r) i 0 within

  any_of_both : (p : ℕ → Bool) (xs ys : List ℕ) → (list_any p xs ≡ true) ⊎ (list_any p ys ≡ true) → list_any p (xs ++ ys) ≡ true
  any_of_both p xs ys h =
      list_any-append p xs ys ∙ elim h [
        | inl first ↦ or_left (list_any p xs) (list_any p ys) first
        | inr later ↦ or_right (list_any p xs) (list_any p ys) later
      ]

  -- the numbers of the parts of inputs that are printed, and that of the last clause's
  abbrev of_printed : List ℕ
  of_printed = chosen_from 0 (λ (k : ℕ) (x : ℕ). x ∷ []) (printed_in r needed) (owners_in r)

  abbrev of_last : List ℕ
  of_last = owner_of (owners_in r) r.last.origin

  abbrev IsUsedPart : ℕ → Type 0
  IsUsedPart o = (o < length r.given) × (slice_get (used_in r needed) o ≡ Some true)

  -- the part of an input is used where its number is among these
  part_used : (i o : ℕ) → slice_get (owners_in r) i ≡ Some o → (list_any (λ (x : ℕ). x == o) of_printed ≡ true) ⊎ (list_any (λ (x : ℕ). x == o) of_last ≡ true) → IsUsedPart o
  part_used i o own among =
      let fits : o < length r.given = s.owners i o own in
      (fits, below_at (uses_part (owners_in r) (printed_in r needed) r.last.origin) (length r.given) o fits (any_of_both (λ (x : ℕ). x == o) of_printed of_last among))

  -- the part of a printed input is used
  pub owner_used : (i : ℕ) → i < length r.inputs → slice_get (printed_in r needed) i ≡ Some true → IsUsedPart (get_or (owners_in r) i 0)
  owner_used i lt printed =
      let own = owner_at i lt in
      let o = get_or (owners_in r) i 0 in
      part_used i o own (inl (any_in (λ (x : ℕ). x == o) of_printed o (has_given (λ (k : ℕ) (x : ℕ). x ∷ []) 0 (printed_in r needed) (owners_in r) i o o printed own (0, refl)) (eq-eqb o o refl)))

  -- so is that of the last clause, where it is an input
  pub last_used : (i : ℕ) → r.last.origin ≡ Input i → i < length r.inputs → IsUsedPart (get_or (owners_in r) i 0)
  last_used i e lt =
      let o = get_or (owners_in r) i 0 in
      part_used i o (owner_at i lt) (inr (ap (λ (x : Origin). list_any (λ (y : ℕ). y == o) (owner_of (owners_in r) x)) e ∙ or_left (o == o) false (eq-eqb o o refl)))
