use Rattle.std.proofs.Common.{ℕ, ◌≡◌, ◌++◌, ◌∷◌, [], Bool, true, nat_eq, List, Some, slice_get, ap, sym, subst, ◌∙◌}
use Rattle.std.specs.Prelude.{Vec}
use Rattle.std.specs.declared.alloc.Global.{Global}
use Rattle.std.specs.Cmp.Lexicographic.{pointwise, bytes_decides}
use Rattle.clause_form.specs.declared.clause.AtomOf.{AtomOf}
use Rattle.sat_step.specs.code.Atoms.{AreNumbered}
use Rattle.sat_step.proofs.Table.{kept_keys, more_keys, found_at}
use Rattle.sat_step.proofs.atoms.Atoms.number.Goals as goal

abbrev Key : Type 0
Key = Vec ℕ Global

abbrev text : Key → List ℕ
text k = k.items

abbrev same : Key → Key → Bool
same a b = pointwise nat_eq a.items b.items

knows : (a b : Key) → text a ≡ text b → same a b ≡ true
knows a b e = (bytes_decides a.items b.items).1 e

tells : (a b : Key) → same a b ≡ true → text a ≡ text b
tells a b e = (bytes_decides a.items b.items).0 e

pub returns-in_ok-push-clause-numbered : goal.returns-in_ok-push-clause-numbered
returns-in_ok-push-clause-numbered c =
    let old = c.args.self.now in
    let both = more_keys text same knows old.keys.keys c.insert_full.new.self.keys c.in_ok-key.key c.in_ok-number.is_new old.atoms c.args.atom.now c.in_ok-number.ensures.added c.if-is_new.true c.in_ok-number.ensures.keys c.requires.codes
    c.in_ok-key.ensures c.requires.distinct in
    let P : List AtomOf → Type 0 = λ as_. AreNumbered (record { atoms = as_; keys = c.insert_full.new.self }) in
    let is : old.atoms ++ c.args.atom.now ∷ [] ≡ c.push.new.self = ap (λ (a : AtomOf). old.atoms ++ a ∷ []) (sym c.in_ok-copy.ensures) ∙ sym c.in_ok-push.ensures.ok in
    subst P is (record { codes = both.0; distinct = both.1 })

pub returns-in_ok-push-clause-found : goal.returns-in_ok-push-clause-found
returns-in_ok-push-clause-found c =
    let old = c.args.self.now in
    let both = more_keys text same knows old.keys.keys c.insert_full.new.self.keys c.in_ok-key.key c.in_ok-number.is_new old.atoms c.args.atom.now c.in_ok-number.ensures.added c.if-is_new.true c.in_ok-number.ensures.keys c.requires.codes
    c.in_ok-key.ensures c.requires.distinct in
    let is : old.atoms ++ c.args.atom.now ∷ [] ≡ c.push.new.self = ap (λ (a : AtomOf). old.atoms ++ a ∷ []) (sym c.in_ok-copy.ensures) ∙ sym c.in_ok-push.ensures.ok in
    let P : List AtomOf → Type 0 = λ as_. slice_get as_ c.in_ok-number.number ≡ Some c.args.atom.now in
    subst P is (found_at text same knows c.insert_full.new.self.keys c.in_ok-key.key c.in_ok-number.number (old.atoms ++ c.args.atom.now ∷ []) c.args.atom.now tells both.0 c.in_ok-key.ensures c.in_ok-number.ensures.stored)

pub returns-else-is_new-clause-found : goal.returns-else-is_new-clause-found
returns-else-is_new-clause-found c =
    let old = c.args.self.now in
    let codes = kept_keys text same knows old.keys.keys c.insert_full.new.self.keys c.in_ok-key.key c.in_ok-number.is_new old.atoms c.in_ok-number.ensures.added c.if-is_new.false c.in_ok-number.ensures.keys c.requires.codes in
    found_at text same knows c.insert_full.new.self.keys c.in_ok-key.key c.in_ok-number.number old.atoms c.args.atom.now tells codes c.in_ok-key.ensures c.in_ok-number.ensures.stored
