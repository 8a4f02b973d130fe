-- A text that is copied as far as it fits is the text added. Assumes nothing.
use Rattle.std.proofs.Common.{◌≡◌, ℕ, ◌+◌, ◌-◌, ◌≤◌, List, ◌++◌, length, take, min, refl, sym, ap, ◌∙◌, arith}
use Rattle.std.proofs.lemmas.List.{length-append, length-take, length-drop, take_min, length-take-le}
use Rattle.std.proofs.Math.Seq.{take-append-add}
use Rattle.std.proofs.lemmas.Slice.{take-put_mid}
use borrow.Rule.Slice.PartMut.{put_mid}
use Rattle.words.specs.Line.{Made, add}
use Rattle.words.proofs.line.Line.add_text.Goals as goal

module _ (xs ys text : List ℕ) (e n : ℕ) (inside : e ≤ length xs)
    (fits : n ≡ min (length text) (length xs - e)) (copied : ys ≡ take n text) where
  length_ys : length ys ≡ n
  length_ys = rw copied (omega (arith, length-take n text))

  bytes : take (e + n) (put_mid e (e + n - e) xs ys) ≡ take (length xs) (take e xs ++ text)
  bytes =
      let front : length (take e xs) ≡ e = length-take-le e xs inside in
      let rest : length xs ≡ length (take e xs) + (length xs - e) = omega arith in
      let cut : min (length xs - e) (length text) ≡ n = omega arith in
      take-put_mid e _ xs ys _ (omega (arith, length_ys)) inside
      ∙ ap (λ t. take e xs ++ t) (copied ∙ ap (λ k. take k text) (sym cut) ∙ take_min (length xs - e) text)
      ∙ sym (take-append-add (take e xs) text (length xs - e))
      ∙ ap (λ k. take k (take e xs ++ text)) (sym rest)

  room : length (put_mid e (e + n - e) xs ys) ≡ length xs
  room = simp (length-append, length-take, length-drop) (omega (arith, length_ys))

  whole : (old : Made) → old ≡ record { room = length xs; bytes = take e xs }
      → record { room = length (put_mid e (e + n - e) xs ys); bytes = take (e + n) (put_mid e (e + n - e) xs ys) }
      ≡ add old text
  whole old was = rw (was, room, bytes) refl

pub returns : goal.returns
returns c =
    whole c.self.inside.bytes.now c.copy_from_slice.new.self c.args.text.now c.self.inside.end c.min-n.result
    (omega arith) c.min-n.ensures c.copy_from_slice.ensures.after _ (sym c.self.view_is)
