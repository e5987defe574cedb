-- Of a text, all but its end was written.
use Rattle.std.proofs.Common.{◌≡◌, ◌∙◌, ℕ, List, [], ◌++◌, Option, ap, append_assoc, refl, subst, sym}
use Rattle.std.specs.Io.KnownBytes.{Appends}
use Rattle.std.proofs.KnownBytes.{Appends-nil, Appends-trans}
use Rattle.hub_replay.specs.Devices.{AppendsAllBut, AppendsBeginning}

-- nothing was
pub none-yet : (old : Option (List ℕ)) (text : List ℕ) → AppendsAllBut old old text text
none-yet old text = record { written = []; split = refl; appends = Appends-nil old }

module _ {old now : Option (List ℕ)} {text left : List ℕ} (so : AppendsAllBut old now text left) where
  -- so a beginning was
  pub begun : AppendsBeginning old now text
  begun = (so.written, left, so.split, so.appends)

  -- the end has more behind it
  pub with-end : (end : List ℕ) → AppendsAllBut old now (text ++ end) (left ++ end)
  with-end end = record {
    written = so.written;
    split = ap (λ l. l ++ end) so.split ∙ append_assoc so.written left end;
    appends = so.appends;
  }

  -- and what is left was
  pub all-written : (new : Option (List ℕ)) → Appends now new left → Appends old new text
  all-written new more =
      subst (λ (l : List ℕ). Appends old new l) (sym so.split) (Appends-trans old now new so.written left so.appends more)

  -- and so was more of it
  pub more-written : (new : Option (List ℕ)) (front rest behind : List ℕ) → left ≡ front ++ behind → AppendsAllBut now new front rest →
      AppendsAllBut old new text (rest ++ behind)
  more-written new front rest behind is more = record {
    written = so.written ++ more.written;
    split = so.split ∙ ap (λ l. so.written ++ l) (is ∙ ap (λ l. l ++ behind) more.split ∙ append_assoc more.written rest behind)
        ∙ sym (append_assoc so.written more.written (rest ++ behind));
    appends = Appends-trans old now new so.written more.written so.appends more.appends;
  }

-- and a beginning of what is left was
pub next-begun : {old now : Option (List ℕ)} {text left : List ℕ} (so : AppendsAllBut old now text left) (new : Option (List ℕ)) (front behind : List ℕ) →
    left ≡ front ++ behind → AppendsBeginning now new front → AppendsBeginning old new text
next-begun so new front behind is (a, b, split, more) =
    begun (more-written so new front b behind is (record { written = a; split = split; appends = more }))

-- and a beginning of a text is one of what it begins
pub end-begun : (old now : Option (List ℕ)) (text end all : List ℕ) → all ≡ text ++ end → AppendsBeginning old now text →
    AppendsBeginning old now all
end-begun old now text end all is (a, b, split, more) = (a, b ++ end, is ∙ ap (λ l. l ++ end) split ∙ append_assoc a b end, more)
