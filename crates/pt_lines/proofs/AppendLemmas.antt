-- AppendLemmas: bytes that are appended one piece after another.
use Rattle.std.proofs.Common.{◌≡◌, ◌<◌, ◌≤◌, ◌+◌, ◌∙◌, ℕ, List, [], ◌∷◌, ◌++◌, length, take, get_or}
use Rattle.std.proofs.Common.{ap, sym, append_assoc}
use Rattle.std.proofs.lemmas.List.{take_more, take_all}

-- the same with other names for the bytes
pub append-same :
    (before out all bytes text : List ℕ) → before ≡ out → bytes ≡ text → all ≡ before ++ bytes
    → all ≡ out ++ text
append-same before out all bytes text same is added =
    added ∙ ap (λ xs. xs ++ bytes) same ∙ ap (λ ys. out ++ ys) is

-- two pieces
pub append-two :
    (out o1 o2 a b : List ℕ) → o1 ≡ out ++ a → o2 ≡ o1 ++ b → o2 ≡ out ++ (a ++ b)
append-two out o1 o2 a b e1 e2 = e2 ∙ ap (λ xs. xs ++ b) e1 ∙ append_assoc out a b

-- one more byte of a text
pub append-byte :
    (out now next bytes : List ℕ) (i : ℕ) → i < length bytes → now ≡ out ++ take i bytes
    → next ≡ now ++ get_or bytes i 0 ∷ [] → next ≡ out ++ take (i + 1) bytes
append-byte out now next bytes i lt so pushed =
    append-two out now next (take i bytes) (get_or bytes i 0 ∷ []) so pushed
    ∙ ap (λ xs. out ++ xs) (sym (take_more bytes i 0 lt))

-- all bytes of the text
pub append-all :
    (out now bytes : List ℕ) (i : ℕ) → length bytes ≤ i → now ≡ out ++ take i bytes
    → now ≡ out ++ bytes
append-all out now bytes i le so = so ∙ ap (λ xs. out ++ xs) (take_all i bytes le)

-- an answer's client, number and word, appended one after another
pub append-reply :
    (out o1 o2 o3 from digits word : List ℕ) → o1 ≡ out ++ from → o2 ≡ o1 ++ digits
    → o3 ≡ o2 ++ (32 ∷ word ++ 10 ∷ []) → o3 ≡ out ++ (from ++ digits ++ 32 ∷ word ++ 10 ∷ [])
append-reply out o1 o2 o3 from digits word e1 e2 e3 =
    append-two out o2 o3 (from ++ digits) (32 ∷ word ++ 10 ∷ [])
    (append-two out o1 o2 from digits e1 e2) e3
    ∙ ap (λ xs. out ++ xs) (sym (append_assoc (from ++ digits) (32 ∷ word) (10 ∷ [])))
