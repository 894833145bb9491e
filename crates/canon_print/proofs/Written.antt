-- Texts that a sink takes in pieces, the last of which may be refused.
use Rattle.std.proofs.Common.{◌≡◌, ℕ, zero, suc, ◌+◌, ◌<◌, ◌≤◌, Bool, true, false, not, if◌then◌else◌, List, [], ◌∷◌, ◌++◌, length, get_or, take, drop, Option, Result, Ok, Err, OnOk, OnErr, refl, sym, ap, subst, ◌∙◌, arith, append_assoc}
use Rattle.std.proofs.lemmas.Grind.{flat_map-append}
use Rattle.std.proofs.lemmas.List.{append-nil, take-append-drop}
use Rattle.std.proofs.Math.Seq.{take-add}
use Rattle.std.specs.List.{flat_map, prefix_len}
use Rattle.std.specs.Io.KnownBytes.{append_known}
use Rattle.tptp_base.specs.declared.surface.BinOp.{BinOp}
use Rattle.tptp_base.specs.declared.surface.Surface.{Surface}
use Rattle.tptp_base.specs.declared.surface.Surface.TheVariants.{Binary}
use Rattle.tptp_base.specs.Sink.{Takes, TakesPrefix}
use Rattle.tptp_base.proofs.Taken.{takes_both, takes_then_prefix, prefix_of_more}
use Rattle.tptp_lexer.specs.Quotes.{is_escaped}
use Rattle.canon_print.specs.Canonical.{operator_text, Shown, formula_text}
use Rattle.canon_print.specs.code.Canonical.{unit_text}
use Rattle.canon_print.proofs.Equations.{shown-Binary}
use Rattle.canon_print.specs.Words.{escaped}
use Rattle.canon_print.specs.code.Words.{is_bare}

-- characters that stand for themselves
plain_by : (quote : ℕ) (x : ℕ) (xs : List ℕ) (n : ℕ) (t : Bool) → is_escaped quote x ≡ t → suc n ≤ (if not t then 1 + prefix_len (is_bare quote) xs else 0)
    → (n ≤ prefix_len (is_bare quote) xs → flat_map (escaped quote) (take n xs) ≡ take n xs) → flat_map (escaped quote) (x ∷ take n xs) ≡ x ∷ take n xs
plain_by quote x xs n true e h more = absurd (omega arith)
plain_by quote x xs n false e h more = let rest = more (omega arith) in rw e (ap (λ (z : List ℕ). x ∷ z) rest)

plain_run : (quote : ℕ) (xs : List ℕ) (n : ℕ) → n ≤ prefix_len (is_bare quote) xs → flat_map (escaped quote) (take n xs) ≡ take n xs
plain_run quote xs zero h = refl
plain_run quote [] (suc n) h = refl
plain_run quote (x ∷ xs) (suc n) h = plain_by quote x xs n (is_escaped quote x) refl h (plain_run quote xs n)

-- pieces more, and pieces that are refused
pub more_pieces : (f : ℕ → List ℕ) (old mid new : Option (List ℕ)) (xs : List ℕ) (done count : ℕ) → Takes old mid (flat_map f (take done xs)) → Takes mid new (flat_map f (take count (drop done xs)))
    → Takes old new (flat_map f (take (done + count) xs))
more_pieces f old mid new xs done count first second =
    takes_both old mid new _ _ first second ∙ ap (append_known old) (sym (ap (flat_map f) (take-add done count xs) ∙ flat_map-append f (take done xs) (take count (drop done xs))))

pub pieces_refused : (f : ℕ → List ℕ) (old mid new : Option (List ℕ)) (xs : List ℕ) (done : ℕ) → Takes old mid (flat_map f (take done xs)) → TakesPrefix mid new (flat_map f (drop done xs)) → TakesPrefix old new (flat_map f xs)
pieces_refused f old mid new xs done taken prefix =
    subst (TakesPrefix old new) (sym (flat_map-append f (take done xs) (drop done xs)) ∙ ap (flat_map f) (take-append-drop done xs))
    (takes_then_prefix old mid new (flat_map f (take done xs)) (flat_map f (drop done xs)) taken prefix)

-- of these pieces the first ones
front_refused : (f : ℕ → List ℕ) (old new : Option (List ℕ)) (xs : List ℕ) (n : ℕ) → TakesPrefix old new (flat_map f (take n xs)) → TakesPrefix old new (flat_map f xs)
front_refused f old new xs n prefix =
    subst (TakesPrefix old new) (sym (flat_map-append f (take n xs) (drop n xs)) ∙ ap (flat_map f) (take-append-drop n xs)) (prefix_of_more old new (flat_map f (take n xs)) (flat_map f (drop n xs)) prefix)

-- the first of these pieces
first_piece : (f : ℕ → List ℕ) (xs : List ℕ) → 0 < length xs → flat_map f (take 1 xs) ≡ f (get_or xs 0 0)
first_piece f [] h = absurd (omega arith)
first_piece f (x ∷ xs) h = append-nil (f x)

pub first_piece_refused : (f : ℕ → List ℕ) (old new : Option (List ℕ)) (xs : List ℕ) → 0 < length xs → TakesPrefix old new (f (get_or xs 0 0)) → TakesPrefix old new (flat_map f xs)
first_piece_refused f old new xs h prefix = front_refused f old new xs 1 (subst (TakesPrefix old new) (sym (first_piece f xs h)) prefix)

-- a run of characters that stand for themselves
pub run_taken : (quote : ℕ) (old new : Option (List ℕ)) (xs : List ℕ) (n : ℕ) → n ≤ prefix_len (is_bare quote) xs → Takes old new (take n xs) → Takes old new (flat_map (escaped quote) (take n xs))
run_taken quote old new xs n h taken = subst (Takes old new) (sym (plain_run quote xs n h)) taken

pub run_refused : (quote : ℕ) (old new : Option (List ℕ)) (xs : List ℕ) (n : ℕ) → n ≤ prefix_len (is_bare quote) xs → TakesPrefix old new (take n xs) → TakesPrefix old new (flat_map (escaped quote) xs)
run_refused quote old new xs n h prefix = front_refused (escaped quote) old new xs n (subst (TakesPrefix old new) (sym (plain_run quote xs n h)) prefix)

-- the quote, the characters, the quote
pub first_refused : (old new : Option (List ℕ)) (quote : ℕ) (written : List ℕ) → TakesPrefix old new (quote ∷ []) → TakesPrefix old new (quote ∷ (written ++ quote ∷ []))
first_refused old new quote written prefix = prefix_of_more old new (quote ∷ []) (written ++ quote ∷ []) prefix

pub chars_refused : (old mid new : Option (List ℕ)) (quote : ℕ) (written : List ℕ) → Takes old mid (quote ∷ []) → TakesPrefix mid new written → TakesPrefix old new (quote ∷ (written ++ quote ∷ []))
chars_refused old mid new quote written taken prefix = takes_then_prefix old mid new (quote ∷ []) (written ++ quote ∷ []) taken (prefix_of_more mid new written (quote ∷ []) prefix)

pub last_refused : {T E : Type 0} (result : Result T E) (old mid next new : Option (List ℕ)) (quote : ℕ) (written : List ℕ) → Takes old mid (quote ∷ []) → Takes mid next written → OnErr result (TakesPrefix next new (quote ∷ []))
    → OnErr result (TakesPrefix old new (quote ∷ (written ++ quote ∷ [])))
last_refused (Ok value) old mid next new quote written first second prefix = prefix
last_refused (Err error) old mid next new quote written first second prefix = takes_then_prefix old mid new (quote ∷ []) (written ++ quote ∷ []) first (takes_then_prefix mid next new written (quote ∷ []) second prefix)

-- ---- texts that are appended in three pieces

pub three_pieces : {T E : Type 0} (result : Result T E) (t0 t1 t2 t3 a b c : List ℕ) → t1 ≡ t0 ++ a → t2 ≡ t1 ++ b → OnOk result (t3 ≡ t2 ++ c) → OnOk result (t3 ≡ t0 ++ (a ++ (b ++ c)))
three_pieces (Ok value) t0 t1 t2 t3 a b c one two last =
    last ∙ ap (λ (t : List ℕ). t ++ c) (two ∙ ap (λ (t : List ℕ). t ++ b) one) ∙ append_assoc (t0 ++ a) b c ∙ append_assoc t0 a (b ++ c)
three_pieces (Err error) t0 t1 t2 t3 a b c one two last = tt

pub binary_written : {T E : Type 0} (result : Result T E) (f : Surface) (o : BinOp) (left right : Surface) (t0 t1 t2 t3 : List ℕ) → f ≡ Binary o left right → t1 ≡ t0 ++ unit_text left → t2 ≡ t1 ++ operator_text o → OnOk result (t3 ≡ t2 ++ unit_text right)
    → OnOk result (t3 ≡ t0 ++ formula_text f)
binary_written result f o left right t0 t1 t2 t3 is one two last =
    subst (λ (z : List ℕ). OnOk result (t3 ≡ t0 ++ z)) (sym (ap (λ (g : Surface). formula_text g) is ∙ ap (λ (s : Shown). s.1) (shown-Binary o left right)))
    (three_pieces result t0 t1 t2 t3 (unit_text left) (operator_text o) (unit_text right) one two last)
