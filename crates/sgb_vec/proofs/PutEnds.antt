-- A text that is put by its first bytes and then by its last, where some of these are the same bytes.
use Rattle.std.proofs.Common.{◌≡◌, ◌≤◌, ◌+◌, ◌-◌, ◌++◌, ℕ, List, length, take, drop, arith, append_assoc, refl}
use Rattle.std.proofs.lemmas.List.{length-drop, take-append-drop, take-take, take_all}
use Rattle.std.proofs.Math.Seq.{take-append-add}

-- the first bytes, cut where the last begin, and the last
pub ends_put : (line text : List ℕ) (width left : ℕ) → length text ≡ left + width → left ≤ width
    → take (length line + left) (line ++ take width text) ++ take width (take (length text - left) (drop left text)) ≡ line ++ text
ends_put line text width left whole few =
    let front = take-append-add line (take width text) left in
    let kept = take-take left width text few in
    let end = take_all (length text - left) (drop left text) (omega (arith, length-drop left text)) in
    let last = take_all width (drop left text) (omega (arith, length-drop left text, whole)) in
    rw (front, kept, end, last, append_assoc line (take left text) (drop left text), take-append-drop left text) refl
