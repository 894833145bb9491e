-- Parts of a problem, one behind the other.
use Rattle.std.proofs.Common.{◌≡◌, ℕ, ◌+◌, List, [], ◌++◌, length, refl, ap, ◌∙◌, arith, append_assoc, append-nil, length-append, Ok, Err}
use Rattle.tptp_base.specs.declared.item.Item.{Item}
use Rattle.include_resolve.specs.declared.problem.Problem.{Problem}
use Rattle.include_resolve.specs.Names.{Text}
use Rattle.include_resolve.specs.Parts.{Answer, nothing, joined, before}
use Rattle.include_resolve.specs.Resolved.{Walk, beyond}

abbrev pub walk_at : List Text → ℕ → ℕ → Walk
walk_at path opened read = record { path = path; opened = opened; read = read }

abbrev pub part_of : List Text → List Item → ℕ → Problem
part_of files items read = record { files = files; items = items; read = read }

pub same_walk : (path : List Text) (m n j k : ℕ) → m ≡ n → j ≡ k → walk_at path m j ≡ walk_at path n k
same_walk path m n j k e f = ap (λ i. walk_at path i j) e ∙ ap (λ i. walk_at path n i) f

pub same_part : (fs gs : List Text) (xs ys : List Item) (m n : ℕ) → fs ≡ gs → xs ≡ ys → m ≡ n → part_of fs xs m ≡ part_of gs ys n
same_part fs gs xs ys m n e f g = ap (λ l. part_of l xs m) e ∙ ap (λ l. part_of gs l m) f ∙ ap (λ i. part_of gs ys i) g

pub beyond_joined : (walk : Walk) (a b : Problem) → beyond walk (joined a b) ≡ beyond (beyond walk a) b
beyond_joined walk a b =
    same_walk walk.path (walk.opened + length (a.files ++ b.files)) (walk.opened + length a.files + length b.files) (walk.read + (a.read + b.read)) (walk.read + a.read + b.read)
    (omega (arith, length-append a.files b.files)) (omega arith)

pub beyond_nothing : (walk : Walk) → beyond walk nothing ≡ walk
beyond_nothing walk = same_walk walk.path (walk.opened + 0) walk.opened (walk.read + 0) walk.read (omega arith) (omega arith)

pub before_joined : (a b : Problem) (answer : Answer) → before (joined a b) answer ≡ before a (before b answer)
before_joined a b (Ok c) =
    ap Ok (same_part ((a.files ++ b.files) ++ c.files) (a.files ++ (b.files ++ c.files)) ((a.items ++ b.items) ++ c.items) (a.items ++ (b.items ++ c.items)) (a.read + b.read + c.read) (a.read + (b.read + c.read))
    (append_assoc a.files b.files c.files) (append_assoc a.items b.items c.items) (omega arith))
before_joined a b (Err cause) = refl

pub before_end : (a : Problem) → before a (Ok nothing) ≡ Ok a
before_end a = ap Ok (same_part (a.files ++ []) a.files (a.items ++ []) a.items (a.read + 0) a.read (append-nil a.files) (append-nil a.items) (omega arith))

pub nothing_before : (answer : Answer) → before nothing answer ≡ answer
nothing_before (Ok a) = ap Ok (same_part a.files a.files a.items a.items (0 + a.read) a.read refl refl (omega arith))
nothing_before (Err cause) = refl
