-- What a teller was told on the way to a moment and from there adds up.
use Rattle.std.proofs.Common.{◌≡◌, ℕ, ◌≤◌, ◌⊎◌, inl, inr, List, [], ◌++◌, take, Option, arith, sym, ◌∙◌, subst, refl}
use Rattle.std.proofs.lemmas.List.{append-nil}
use Rattle.std.proofs.lemmas.Grind.{flat_map-append}
use Rattle.std.specs.Io.KnownBytes.{Appends}
use Rattle.gate_base.specs.Causes.{Rose}
use Rattle.gate_io.specs.declared.writing.Wrote.{Wrote}
use Rattle.gate_io.specs.declared.writing.Wrote.TheVariants as wrote
use Rattle.gate_io.proofs.Streams.{appends_on, appends_none, then_front, front_of_more}
use Rattle.session_core.specs.Notes.{Note}
use Rattle.refusal_teller.specs.Refused.{refusal_lines}
use Rattle.refusal_teller.specs.Tells.{Writes, WritesBehind, Stand, Tells}

writes_none : (w : Wrote) (a : Option (List ℕ)) → WritesBehind w w a a []
writes_none wrote.All a = appends_none a
writes_none wrote.Failed a = (refl, appends_none a)

pub tells_none : (a : Stand) → Tells a a []
tells_none a = record { output = refl; line = refl; room = refl; text = refl; number = refl; writes = writes_none a.wrote a.written; later = omega arith; cause = λ f. inl f }

writes_on : (u v w : Wrote) (a b c : Option (List ℕ)) (xs ys : List ℕ) → WritesBehind u v a b xs → WritesBehind v w b c ys → WritesBehind u w a c (xs ++ ys)
writes_on wrote.All wrote.All wrote.All a b c xs ys p q = appends_on a b c xs ys p q
writes_on wrote.All wrote.All wrote.Failed a b c xs ys p q = then_front a b c xs ys p q
writes_on wrote.All wrote.Failed w a b c xs ys p q =
    let whole : Appends a c (take p.0 xs) = subst (λ (zs : List ℕ). Appends a c zs) (append-nil (take p.0 xs)) (appends_on a b c (take p.0 xs) [] p.2 q.1) in
    subst (λ (x : Wrote). Writes x a c (xs ++ ys)) (sym q.0) (front_of_more a c xs ys (p.0, p.1, whole))
writes_on wrote.Failed v w a b c xs ys p q = by v p.0 q
  where
    by : (x : Wrote) → x ≡ wrote.Failed → WritesBehind x w b c ys → (w ≡ wrote.Failed) × Appends a c []
    by wrote.All is r = absurd (cc)
    by wrote.Failed is r = (r.0, appends_on a b c [] [] p.1 r.1)

cause_on : (u v w : Wrote) (f g h : ℕ) → f ≤ g → g ≤ h → (v ≡ wrote.Failed → (u ≡ wrote.Failed) ⊎ Rose f g) → (w ≡ wrote.Failed → (v ≡ wrote.Failed) ⊎ Rose g h) → w ≡ wrote.Failed → (u ≡ wrote.Failed) ⊎ Rose f h
cause_on u v w f g h below above first second is = by (second is)
  where
    earlier : (u ≡ wrote.Failed) ⊎ Rose f g → (u ≡ wrote.Failed) ⊎ Rose f h
    earlier (inl x) = inl x
    earlier (inr rose) = inr (omega (arith, above, rose))

    by : (v ≡ wrote.Failed) ⊎ Rose g h → (u ≡ wrote.Failed) ⊎ Rose f h
    by (inl x) = earlier (first x)
    by (inr rose) = inr (omega (arith, below, rose))

pub tells_on : (a b c : Stand) (xs ys : List Note) → Tells a b xs → Tells b c ys → Tells a c (xs ++ ys)
tells_on a b c xs ys p q = record {
  output = q.output ∙ p.output;
  line = q.line ∙ p.line;
  room = q.room ∙ p.room;
  text = q.text ∙ p.text;
  number = q.number ∙ p.number;
  writes = subst (λ (zs : List ℕ). WritesBehind a.wrote c.wrote a.written c.written zs) (sym (flat_map-append (a.text a.number) xs ys))
      (writes_on a.wrote b.wrote c.wrote a.written b.written c.written (refusal_lines a.text a.number xs) (refusal_lines a.text a.number ys) p.writes
      (subst (λ n. WritesBehind b.wrote c.wrote b.written c.written (refusal_lines a.text n ys)) p.number
      (subst (λ (t : ℕ → Note → List ℕ). WritesBehind b.wrote c.wrote b.written c.written (refusal_lines t b.number ys)) p.text q.writes)));
  later = omega (arith, p.later, q.later);
  cause = cause_on a.wrote b.wrote c.wrote a.faults b.faults c.faults p.later q.later p.cause q.cause;
}
