-- Members that cover, by place.
use Rattle.std.specs.Prelude.{ℕ, ◌<◌, ◌≤◌, List, ◌≡◌, length, take, Bool, false, IsTrue, ◌↔◌}
use Rattle.std.specs.List.{Contains, All as Each}
use Rattle.std.specs.Option.{option_map}
use Rattle.std.proofs.Common.{ap, sym, subst, ◌∙◌, arith, get_or}
use Rattle.std.proofs.lemmas.List.Elements.{All-contains, Contains-get_or}
use Rattle.std.proofs.lemmas.List.{length-map}
use Rattle.std.proofs.lemmas.Option.{slice_get-map, slice_get-get_or}
use Rattle.fof_terms.specs.Vocabulary.{Vocabulary}
use Rattle.clause_form.specs.declared.clause.Clause.{Clause}
use Rattle.saturation.specs.declared.member.Member.{Member}
use Rattle.saturation.specs.declared.known.Known.{Known}
use Rattle.subsumption.specs.Mask.{mask, IsWithin}
use Rattle.subsumption.specs.Subsumes.{Subsumes}
use Rattle.superpose.specs.Drafts.{IsClause}
use Rattle.saturation.specs.Lists.{IsCoveredIn}
use Rattle.saturation.specs.Members.{clauses_of}
use Rattle.saturation.specs.code.Known.{AreKnown, IsKnown}
use Rattle.saturation.proofs.Lists.{each_all, from_mapped, to_mapped, untrue}
use Rattle.subsumption.proofs.MaskFacts.{mask_subsumed as mask_of_subsumed}

pub clause_there : (list : List Member) (i : ℕ) (d : Member) → i < length list → Contains (clauses_of list) (get_or list i d).clause
clause_there list i d h = to_mapped (λ (m : Member). m.clause) list (get_or list i d) (Contains-get_or list i d h)

pub clause_at : (v : Vocabulary) (list : List Member) (i : ℕ) (d : Member) → Each (IsClause v) (clauses_of list) → i < length list → IsClause v (get_or list i d).clause
clause_at v list i d all h = All-contains (IsClause v) (clauses_of list) (get_or list i d).clause all (clause_there list i d h)

pub known_at : (list : List Member) (known : List Known) (i : ℕ) (d : Member) (k : Known) → AreKnown (clauses_of list) known → i < length list → IsKnown (get_or list i d).clause (get_or known i k)
known_at list known i d k all h =
    let many : length known ≡ length list = all.many ∙ length-map list (λ (m : Member). m.clause) in
    let within : i < length known = omega arith in
    all.each i (get_or list i d).clause (get_or known i k)
    (slice_get-map (λ (m : Member). m.clause) list i ∙ ap (option_map (λ (m : Member). m.clause)) (slice_get-get_or list i d h))
    (slice_get-get_or known i k within)

pub none_covers : (v : Vocabulary) (list : List Member) (c : Clause) (i : ℕ) → length list ≤ i → Each (λ m. Subsumes v m.clause c → ⊥) (take i list) → IsCoveredIn v (clauses_of list) c → ⊥
none_covers v list c i h all covered =
    let at = from_mapped (λ (m : Member). m.clause) list covered.0 covered.1 in
    All-contains (λ m. Subsumes v m.clause c → ⊥) list at.0 (each_all (λ m. Subsumes v m.clause c → ⊥) list i h all) at.1
    (subst (λ (x : Clause). Subsumes v x c) (sym at.2) covered.2)

pub screened : (v : Vocabulary) (m c : Clause) (bits others : ℕ) (b : Bool) → (IsTrue b ↔ IsWithin bits others) → b ≡ false → bits ≡ mask m.lits → others ≡ mask c.lits → Subsumes v m c → ⊥
screened v m c bits others b tells told mine its h =
    let within : IsWithin bits others = subst (λ n. IsWithin n others) (sym mine) (subst (λ n. IsWithin (mask m.lits) n) (sym its) (mask_of_subsumed v m c h)) in
    untrue b (IsWithin bits others) told tells within
