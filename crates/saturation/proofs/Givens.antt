-- The inputs as members.
use Rattle.std.specs.Prelude.{ℕ, ◌+◌, ◌<◌, List, [], ◌∷◌, ◌++◌, ◌≡◌, Some, slice_get, length, take, Bool}
use Rattle.std.specs.List.{Contains, All as Each}
use Rattle.std.proofs.Common.{ap, sym, subst, ◌∙◌, arith, get_or, inl, inr}
use Rattle.std.proofs.lemmas.List.Elements.{All-contains}
use Rattle.std.proofs.lemmas.List.{length-map, length-take-le, map-append, take_more}
use Rattle.std.proofs.lemmas.Option.{slice_get-map, slice_get-get_or}
use Rattle.std.specs.Option.{option_map}
use Rattle.fof_terms.specs.Vocabulary.{Vocabulary}
use Rattle.clause_form.specs.declared.clause.Clause.{Clause}
use Rattle.saturation.specs.declared.member.Member.{Member}
use Rattle.saturation.specs.declared.member.Origin.{Origin}
use Rattle.saturation.specs.declared.member.Origin.TheVariants.{Input}
use Rattle.superpose.specs.Drafts.{IsClause}
use Rattle.saturation.specs.Origins.{Makes, NamesOne}
use Rattle.saturation.specs.code.Given.{AreGiven}
use Rattle.saturation.specs.code.Search.{IsFound, IsUnderWay}
use Rattle.saturation.proofs.Lists.{got_member, got_pushed, each_of, from_mapped}
use Rattle.saturation.proofs.UnderWay.{under_way_at_start}

pub given_more : (inputs : List Clause) (members new : List Member) (i : ℕ) (c : Clause) (n : ℕ) (d : Clause) → AreGiven (take i inputs) members → i < length inputs → c ≡ get_or inputs i d → n ≡ i
    → new ≡ members ++ record { clause = c; origin = Input n } ∷ [] → AreGiven (take (i + 1) inputs) new
given_more inputs members new i c n d h within copy at is =
    let m : Member = record { clause = c; origin = Input n } in
    let many : length members ≡ i = sym (length-map members (λ (m : Member). m.clause)) ∙ ap length h.same ∙ length-take-le i inputs (omega arith) in
    subst (λ (ms : List Member). AreGiven (take (i + 1) inputs) ms) (sym is) (record {
      same = map-append (λ (m : Member). m.clause) members (m ∷ []) ∙ ap (λ (cs : List Clause). cs ++ c ∷ []) h.same ∙ ap (λ (x : Clause). take i inputs ++ x ∷ []) copy ∙ sym (take_more inputs i d within);
      numbered = λ k x e. elim (got_pushed members m k x e) [
        | inl a ↦ h.numbered k x a.1
        | inr a ↦ ap (λ (y : Member). y.origin) a.1 ∙ ap Input (at ∙ sym many ∙ sym a.0)
      ];
    })

-- the place of a member
place_of : {X : Type 0} (xs : List X) (x : X) → Contains xs x → (i : ℕ) × (slice_get xs i ≡ Some x)
place_of xs x h = (h.0, slice_get-get_or xs h.0 x h.1 ∙ ap Some h.2)

makes_input : (v : Vocabulary) (inputs : List Clause) (m : Member) (i : ℕ) → m.origin ≡ Input i → slice_get inputs i ≡ Some m.clause → Makes v inputs [] m.clause m.origin
makes_input v inputs m i is at = subst (λ o. Makes v inputs [] m.clause o) (sym is) at

names_input : (o : Origin) (i : ℕ) → o ≡ Input i → NamesOne o
names_input o i is = subst NamesOne (sym is) tt

given_found : (v : Vocabulary) (whole : Bool) (inputs : List Clause) (members : List Member) → AreGiven inputs members → Each (IsClause v) inputs → (m : Member) → Contains members m → IsFound v whole inputs [] m
given_found v whole inputs members h clauses m there =
    let at = place_of members m there in
    let here : slice_get inputs at.0 ≡ Some m.clause = subst (λ (cs : List Clause). slice_get cs at.0 ≡ Some m.clause) h.same
    (slice_get-map (λ (m : Member). m.clause) members at.0 ∙ ap (option_map (λ (m : Member). m.clause)) at.1) in
    let numbered = h.numbered at.0 m at.1 in
    record {
      made = makes_input v inputs m at.0 numbered here;
      clause = All-contains (IsClause v) inputs m.clause clauses (got_member inputs at.0 m.clause here);
      alone = λ blind. names_input m.origin at.0 numbered;
    }

-- the search begins with the inputs
pub given_under_way : (v : Vocabulary) (whole : Bool) (inputs : List Clause) (members : List Member) → AreGiven inputs members → Each (IsClause v) inputs → IsUnderWay v whole inputs [] members [] []
given_under_way v whole inputs members h clauses =
    under_way_at_start v whole inputs members (each_of (IsFound v whole inputs []) members (given_found v whole inputs members h clauses))
    (λ e there. from_mapped (λ (m : Member). m.clause) members e (subst (λ (cs : List Clause). Contains cs e) (sym h.same) there))
