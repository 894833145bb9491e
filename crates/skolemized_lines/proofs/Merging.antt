-- The clauses of a conjunction and of a disjunction, by those of their members: how these are joined does not matter.
use Rattle.std.specs.Prelude.{ℕ, ◌≡◌, ◌+◌, Bool, true, false, List, [], ◌∷◌, ◌++◌, flat_map, length, map, refl}
use Rattle.std.specs.List.{list_any}
use Rattle.std.proofs.Common.{ap, sym, ◌∙◌, arith, inl, inr}
use Rattle.std.proofs.lemmas.List.{append_assoc, append-nil, length-append, map-append}
use Rattle.std.proofs.lemmas.List.Concat.{flat_map-cons}
use Rattle.std.proofs.lemmas.Simd.{map-map}
use Rattle.fof_terms.specs.declared.form.Form.{Form}
use Rattle.fof_terms.specs.declared.term.Term.{Term, Var}
use Rattle.fof_terms.specs.Lift.{lifted_term}
use Rattle.fof_terms.proofs.LiftingLaws.{lift_lift, moves}
use Rattle.fof_terms.proofs.Walks.{both_terms, lifting_term, same_terms}
use Rattle.clause_form.specs.declared.clause.Clause.{Clause}
use Rattle.clause_form.specs.declared.clause.Lit.{Lit}
use Rattle.clause_form.specs.ClauseView.{open_clause}
use Rattle.clause_form.specs.Clauses.{Clausal, choices, clausal, clausal_of, clauses_in, joined_lists}
use Rattle.clause_form.specs.Covers.{in_lit}
use Rattle.clause_form.specs.Norm.{alone, ends, join, members_of, node}
use Rattle.clause_form.specs.Paths.{all_beside, beside}
use Rattle.clause_form.proofs.BesideFacts.{lift_further, lift_nothing, lits_twice, same_lits}
use Rattle.clause_form.proofs.ClauseLaws.{lits_themselves}
use Rattle.clause_form.proofs.ClausesFacts.{clausal-And, clausal-Or}
use Rattle.clause_form.proofs.Joined.{members_cases}
use Rattle.clause_form.proofs.NormFacts.{joined_flat-alone}

-- ---- clauses beside each other

abbrev pub nothing : Clause
nothing = open_clause []

before_nothing : (c : Clause) → beside nothing c ≡ c
before_nothing c = ap (λ (ls : List Lit). record { sorts = c.sorts; lits = ls }) (lits_themselves (lifted_term 0 (length c.sorts)) (lift_nothing (length c.sorts)) c.lits)

behind_nothing : (c : Clause) → beside c nothing ≡ c
behind_nothing c =
    ap (λ (ss : List ℕ). record { sorts = ss; lits = map (in_lit (lifted_term 0 0)) c.lits ++ [] }) (append-nil c.sorts)
    ∙ ap (λ (ls : List Lit). record { sorts = c.sorts; lits = ls }) (append-nil (map (in_lit (lifted_term 0 0)) c.lits) ∙ lits_themselves (lifted_term 0 0) (lift_nothing 0) c.lits)

both_moved : (n m total k : ℕ) → total ≡ n + m → lifted_term m 0 (lifted_term n 0 (Var k)) ≡ lifted_term total 0 (Var k)
both_moved n m total k e =
    let same : k + n + m ≡ k + total = omega arith in
    ap (lifted_term m 0) (moves n 0 k (omega arith)) ∙ moves m 0 (k + n) (omega arith) ∙ ap Var same ∙ sym (moves total 0 k (omega arith))

lift_both : (n m total : ℕ) → total ≡ n + m → (t : Term) → lifted_term m 0 (lifted_term n 0 t) ≡ lifted_term total 0 t
lift_both n m total e = same_terms _ _ (both_terms _ _ (lifting_term m 0) (lifting_term n 0)) (lifting_term total 0) (λ k. both_moved n m total k e)

-- the literals of three clauses, however they stand beside each other; c, d and e variables are theirs
three : (c d e cd de : ℕ) → cd ≡ c + d → de ≡ d + e → (xs ys zs : List Lit)
    → map (in_lit (lifted_term e 0)) (map (in_lit (lifted_term d 0)) xs ++ map (in_lit (lifted_term c d)) ys) ++ map (in_lit (lifted_term cd e)) zs
    ≡ map (in_lit (lifted_term de 0)) xs ++ map (in_lit (lifted_term c de)) (map (in_lit (lifted_term e 0)) ys ++ map (in_lit (lifted_term d e)) zs)
three c d e cd de cde dee xs ys zs =
    let first : map (in_lit (lifted_term e 0)) (map (in_lit (lifted_term d 0)) xs) ≡ map (in_lit (lifted_term de 0)) xs = lits_twice (lifted_term e 0) (lifted_term d 0) xs ∙ same_lits (λ t. lifted_term e 0 (lifted_term d 0 t)) (lifted_term de 0) (lift_both d e de dee) xs in
    let second : map (in_lit (lifted_term e 0)) (map (in_lit (lifted_term c d)) ys) ≡ map (in_lit (lifted_term c de)) (map (in_lit (lifted_term e 0)) ys) =
    lits_twice (lifted_term e 0) (lifted_term c d) ys ∙ same_lits (λ t. lifted_term e 0 (lifted_term c d t)) (λ t. lifted_term c de (lifted_term e 0 t)) (λ t. sym (lift_lift c e d de (omega arith) t)) ys ∙ sym (lits_twice (lifted_term c de) (lifted_term e 0) ys)
    in
    let third : map (in_lit (lifted_term c de)) (map (in_lit (lifted_term d e)) zs) ≡ map (in_lit (lifted_term cd e)) zs =
    lits_twice (lifted_term c de) (lifted_term d e) zs ∙ same_lits (λ t. lifted_term c de (lifted_term d e t)) (lifted_term cd e) (lift_further c d e de cd (omega arith) (omega arith)) zs
    in
    ap (λ (ls : List Lit). ls ++ map (in_lit (lifted_term cd e)) zs) (map-append (in_lit (lifted_term e 0)) (map (in_lit (lifted_term d 0)) xs) (map (in_lit (lifted_term c d)) ys))
    ∙ append_assoc (map (in_lit (lifted_term e 0)) (map (in_lit (lifted_term d 0)) xs)) (map (in_lit (lifted_term e 0)) (map (in_lit (lifted_term c d)) ys)) (map (in_lit (lifted_term cd e)) zs)
    ∙ ap (λ (ls : List Lit). ls ++ (map (in_lit (lifted_term e 0)) (map (in_lit (lifted_term c d)) ys) ++ map (in_lit (lifted_term cd e)) zs)) first
    ∙ ap (λ (ls : List Lit). map (in_lit (lifted_term de 0)) xs ++ (ls ++ map (in_lit (lifted_term cd e)) zs)) second
    ∙ ap (λ (ls : List Lit). map (in_lit (lifted_term de 0)) xs ++ (map (in_lit (lifted_term c de)) (map (in_lit (lifted_term e 0)) ys) ++ ls)) (sym third)
    ∙ ap (λ (ls : List Lit). map (in_lit (lifted_term de 0)) xs ++ ls) (sym (map-append (in_lit (lifted_term c de)) (map (in_lit (lifted_term e 0)) ys) (map (in_lit (lifted_term d e)) zs)))

beside_beside : (c d e : Clause) → beside (beside c d) e ≡ beside c (beside d e)
beside_beside c d e =
    ap (λ (ls : List Lit). record { sorts = (c.sorts ++ d.sorts) ++ e.sorts; lits = ls })
    (three (length c.sorts) (length d.sorts) (length e.sorts) (length (c.sorts ++ d.sorts)) (length (d.sorts ++ e.sorts)) (length-append c.sorts d.sorts) (length-append d.sorts e.sorts) c.lits d.lits e.lits)
    ∙ ap (λ (ss : List ℕ). record { sorts = ss; lits = (beside c (beside d e)).lits }) (append_assoc c.sorts d.sorts e.sorts)

-- ---- each beside each

abbrev pub pairs : List Clause → List Clause → List Clause
pairs cs ds = flat_map (λ (c : Clause). map (beside c) ds) cs

pairs_append : (xs ys zs : List Clause) → pairs (xs ++ ys) zs ≡ pairs xs zs ++ pairs ys zs
pairs_append [] ys zs = refl
pairs_append (x ∷ xs) ys zs =
    flat_map-cons (λ (c : Clause). map (beside c) zs) x (xs ++ ys)
    ∙ ap (λ (cs : List Clause). map (beside x) zs ++ cs) (pairs_append xs ys zs)
    ∙ sym (append_assoc (map (beside x) zs) (pairs xs zs) (pairs ys zs))
    ∙ ap (λ (cs : List Clause). cs ++ pairs ys zs) (sym (flat_map-cons (λ (c : Clause). map (beside c) zs) x xs))

all_behind : (c d : Clause) (es : List Clause) → map (beside (beside c d)) es ≡ map (beside c) (map (beside d) es)
all_behind c d [] = refl
all_behind c d (e ∷ es) = rw (beside_beside c d e, all_behind c d es) refl

pairs_behind : (c : Clause) (ds es : List Clause) → pairs (map (beside c) ds) es ≡ map (beside c) (pairs ds es)
pairs_behind c [] es = refl
pairs_behind c (d ∷ ds) es =
    flat_map-cons (λ (x : Clause). map (beside x) es) (beside c d) (map (beside c) ds)
    ∙ ap (λ (cs : List Clause). cs ++ pairs (map (beside c) ds) es) (all_behind c d es)
    ∙ ap (λ (cs : List Clause). map (beside c) (map (beside d) es) ++ cs) (pairs_behind c ds es)
    ∙ sym (map-append (beside c) (map (beside d) es) (pairs ds es))
    ∙ ap (map (beside c)) (sym (flat_map-cons (λ (x : Clause). map (beside x) es) d ds))

pairs_pairs : (cs ds es : List Clause) → pairs (pairs cs ds) es ≡ pairs cs (pairs ds es)
pairs_pairs [] ds es = refl
pairs_pairs (c ∷ cs) ds es =
    ap (λ (xs : List Clause). pairs xs es) (flat_map-cons (λ (x : Clause). map (beside x) ds) c cs)
    ∙ pairs_append (map (beside c) ds) (pairs cs ds) es
    ∙ ap (λ (xs : List Clause). xs ++ pairs (pairs cs ds) es) (pairs_behind c ds es)
    ∙ ap (λ (xs : List Clause). map (beside c) (pairs ds es) ++ xs) (pairs_pairs cs ds es)
    ∙ sym (flat_map-cons (λ (x : Clause). map (beside x) (pairs ds es)) c cs)

all_before : (ds : List Clause) → map (beside nothing) ds ≡ ds
all_before [] = refl
all_before (d ∷ ds) = rw (before_nothing d, all_before ds) refl

pairs_before : (ds : List Clause) → pairs (nothing ∷ []) ds ≡ ds
pairs_before ds = flat_map-cons (λ (x : Clause). map (beside x) ds) nothing [] ∙ append-nil (map (beside nothing) ds) ∙ all_before ds

pairs_nothing : (cs : List Clause) → pairs cs (nothing ∷ []) ≡ cs
pairs_nothing [] = refl
pairs_nothing (c ∷ cs) =
    flat_map-cons (λ (x : Clause). map (beside x) (nothing ∷ [])) c cs
    ∙ ap (λ (x : Clause). x ∷ pairs cs (nothing ∷ [])) (behind_nothing c) ∙ ap (λ (xs : List Clause). c ∷ xs) (pairs_nothing cs)

-- ---- the clauses of members, joined

abbrev pub neutral : Bool → List Clause
neutral true = []
neutral false = nothing ∷ []

-- of a conjunction those of both, of a disjunction each beside each
abbrev pub merged : Bool → List Clause → List Clause → List Clause
merged true cs ds = cs ++ ds
merged false cs ds = pairs cs ds

abbrev pub merged_all : Bool → List (List Clause) → List Clause
merged_all g [] = neutral g
merged_all g (cs ∷ lists) = merged g cs (merged_all g lists)

merged_neutral : (g : Bool) (cs : List Clause) → merged g (neutral g) cs ≡ cs
merged_neutral true cs = refl
merged_neutral false cs = pairs_before cs

merged_one : (g : Bool) (cs : List Clause) → merged_all g (cs ∷ []) ≡ cs
merged_one true cs = append-nil cs
merged_one false cs = pairs_nothing cs

merged_twice : (g : Bool) (cs ds es : List Clause) → merged g (merged g cs ds) es ≡ merged g cs (merged g ds es)
merged_twice true cs ds es = append_assoc cs ds es
merged_twice false cs ds es = pairs_pairs cs ds es

merged_append : (g : Bool) (xs ys : List (List Clause)) → merged_all g (xs ++ ys) ≡ merged g (merged_all g xs) (merged_all g ys)
merged_append g [] ys = sym (merged_neutral g (merged_all g ys))
merged_append g (x ∷ xs) ys = ap (merged g x) (merged_append g xs ys) ∙ sym (merged_twice g x (merged_all g xs) (merged_all g ys))

-- ---- those of a node

all_listed : (lists : List (List Clause)) → joined_lists lists ≡ merged_all true lists
all_listed [] = refl
all_listed (xs ∷ lists) = ap (λ (cs : List Clause). xs ++ cs) (all_listed lists)

one_chosen : (x : Clause) (rests : List (List Clause)) → map all_beside (map (λ (rest : List Clause). x ∷ rest) rests) ≡ map (beside x) (map all_beside rests)
one_chosen x [] = refl
one_chosen x (rest ∷ rests) = ap (λ (cs : List Clause). beside x (all_beside rest) ∷ cs) (one_chosen x rests)

each_chosen : (xs : List Clause) (rests : List (List Clause)) → map all_beside (flat_map (λ (x : Clause). map (λ (rest : List Clause). x ∷ rest) rests) xs) ≡ pairs xs (map all_beside rests)
each_chosen [] rests = refl
each_chosen (x ∷ xs) rests =
    ap (map all_beside) (flat_map-cons (λ (y : Clause). map (λ (rest : List Clause). y ∷ rest) rests) x xs)
    ∙ map-append all_beside (map (λ (rest : List Clause). x ∷ rest) rests) (flat_map (λ (y : Clause). map (λ (rest : List Clause). y ∷ rest) rests) xs)
    ∙ ap (λ (cs : List Clause). cs ++ map all_beside (flat_map (λ (y : Clause). map (λ (rest : List Clause). y ∷ rest) rests) xs)) (one_chosen x rests)
    ∙ ap (λ (cs : List Clause). map (beside x) (map all_beside rests) ++ cs) (each_chosen xs rests)
    ∙ sym (flat_map-cons (λ (c : Clause). map (beside c) (map all_beside rests)) x xs)

all_chosen : (lists : List (List Clause)) → map all_beside (choices lists) ≡ merged_all false lists
all_chosen [] = refl
all_chosen (xs ∷ lists) = each_chosen xs (choices lists) ∙ ap (pairs xs) (all_chosen lists)

pub node_clausal : (g : Bool) (as_ : List Form) → clausal (node g as_) ≡ clausal_of (merged_all g (map clauses_in as_))
node_clausal true as_ = clausal-And as_ ∙ ap clausal_of (all_listed (map (λ (x : Clausal). x.clauses) (map clausal as_)) ∙ ap (merged_all true) (map-map (λ (x : Clausal). x.clauses) clausal as_))
node_clausal false as_ = clausal-Or as_ ∙ ap clausal_of (all_chosen (map (λ (x : Clausal). x.clauses) (map clausal as_)) ∙ ap (merged_all false) (map-map (λ (x : Clausal). x.clauses) clausal as_))

pub node_clauses : (g : Bool) (as_ : List Form) → clauses_in (node g as_) ≡ merged_all g (map clauses_in as_)
node_clauses g as_ = ap (λ (x : Clausal). x.clauses) (node_clausal g as_)

module _ (g : Bool) where
  members_clauses : (a : Form) → merged_all g (map clauses_in (members_of g a)) ≡ clauses_in a
  members_clauses a =
      elim (members_cases g a) [
        | inl k ↦ ap (λ (as_ : List Form). merged_all g (map clauses_in as_)) k.2 ∙ sym (node_clauses g k.0) ∙ ap clauses_in (sym k.1)
        | inr e ↦ ap (λ (as_ : List Form). merged_all g (map clauses_in as_)) e ∙ merged_one g (clauses_in a)
      ]

  flat_clauses : (as_ : List Form) → merged_all g (map clauses_in (flat_map (members_of g) as_)) ≡ merged_all g (map clauses_in as_)
  flat_clauses [] = refl
  flat_clauses (a ∷ as_) =
      ap (λ (bs : List Form). merged_all g (map clauses_in bs)) (flat_map-cons (members_of g) a as_)
      ∙ ap (merged_all g) (map-append clauses_in (members_of g a) (flat_map (members_of g) as_))
      ∙ merged_append g (map clauses_in (members_of g a)) (map clauses_in (flat_map (members_of g) as_))
      ∙ ap (λ (cs : List Clause). merged g cs (merged_all g (map clauses_in (flat_map (members_of g) as_)))) (members_clauses a)
      ∙ ap (merged g (clauses_in a)) (flat_clauses as_)

  alone_clauses : (as_ : List Form) → clauses_in (alone g as_) ≡ merged_all g (map clauses_in as_)
  alone_clauses [] = node_clauses g []
  alone_clauses (a ∷ []) = sym (merged_one g (clauses_in a))
  alone_clauses (a ∷ b ∷ as_) = node_clauses g (a ∷ b ∷ as_)

  -- a joined node that nothing ends has the clauses of what is joined
  pub join_clauses : (as_ : List Form) → list_any (ends g) (flat_map (members_of g) as_) ≡ false → clauses_in (join g as_) ≡ merged_all g (map clauses_in as_)
  join_clauses as_ e = ap clauses_in (joined_flat-alone g (flat_map (members_of g) as_) e) ∙ alone_clauses (flat_map (members_of g) as_) ∙ flat_clauses as_
