-- Names that are other ones, and lists of names.
use mathlib.Core.Path.{◌≡◌, refl}
use mathlib.Core.Logic.{◌≢◌}
use mathlib.Core.Bool.{true, false}
use mathlib.Core.List.Memᴰ
use mathlib.Core.List.{List, [], ◌∷◌, Memᴰ}
use Rattle.buffers.specs.Bytes.{bytes_eq}
use Rattle.buffers.proofs.Split.{split, clash}
use Rattle.buffers.proofs.Bytes.{bytes_eq-eq, bytes_eq-refl, eq-bytes_eq}
use Rattle.spec.specs.Name.{Name}
use Rattle.spec.specs.Slots.{member, dedup}

pub other_name : (n m : Name) → bytes_eq n m ≡ false → n ≢ m
other_name n m h e = clash (bytes_eq n m) (eq-bytes_eq n m e) h

pub member_in : (n : Name) (l : List Name) → member n l ≡ true → Memᴰ n l
member_in n [] h = clash false h refl
member_in n (m ∷ l) h = split (bytes_eq n m) (λ e. Memᴰ.head (bytes_eq-eq n m e)) (λ e. Memᴰ.tail (member_in n l (simp e at h)))

pub in_member : (n : Name) (ns : List Name) → Memᴰ n ns → member n ns ≡ true
in_member n [] m = elim m [ ]
in_member n (m ∷ ns) (Memᴰ.head e) = let k : bytes_eq n m ≡ true = rw e (bytes_eq-refl m) in rw k
in_member n (m ∷ ns) (Memᴰ.tail k) = split (bytes_eq n m) (λ e. rw e) (λ e. rw e (in_member n ns k))

pub dedup_in : (n : Name) (l : List Name) → Memᴰ n l → Memᴰ n (dedup l)
dedup_in n [] m = elim m [ ]
dedup_in n (m ∷ l) (Memᴰ.head e) = split (member m l) (λ h. rw h (dedup_in n l (Memᴰ.cast e (member_in m l h)))) (λ h. rw h (Memᴰ.head e))
dedup_in n (m ∷ l) (Memᴰ.tail k) = split (member m l) (λ h. rw h (dedup_in n l k)) (λ h. rw h (Memᴰ.tail (dedup_in n l k)))
