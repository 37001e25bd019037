-- The machine accepts exactly the bytes of scalar values. Assumes nothing.
use Rattle.std.specs.Prelude.{◌≡◌, refl, Bool, true, false, cond, List, [], ◌∷◌, ◌++◌, ◌⊎◌, ◌↔◌, ℕ, zero, suc, ◌+◌, ◌*◌, ◌-◌, ◌/◌, ◌%◌, ◌<◌, ◌≤◌, length, ltb, eqb}
use Rattle.std.proofs.Common.{sym, ◌∙◌, ap, inl, inr, ⊎_elim, arith, sub-one, lt-ltb, le-ltb, ne_eqb, ltb-true, ltb-false, eqb-true}
use Rattle.std.proofs.lemmas.Bool.{false≢true, eqb-false}
use Rattle.text.specs.Utf8.{Scalar, Text, Utf8, encode, bytes_of, enc2, enc3, enc4, encode_1, encode_2, encode_3, encode_4, Size, size, one, two, three, four, scalar_top}
use Rattle.text.specs.Machine.{st, start, broken, lead_of, step_of, runs, is_utf8}

-- the kinds of leading byte
pub data Lead (b : ℕ) : Type 0 where
  ascii : b < 128 → lead_of b ≡ start → Lead b
  wrong : lead_of b ≡ broken → (128 ≤ b) × ((b < 194) ⊎ (245 ≤ b)) → Lead b
  l2 : 194 ≤ b → b < 224 → lead_of b ≡ st 1 128 191 → Lead b
  e0 : b ≡ 224 → lead_of b ≡ st 2 160 191 → Lead b
  ed : b ≡ 237 → lead_of b ≡ st 2 128 159 → Lead b
  l3 : 225 ≤ b → b < 240 → (b ≡ 237 → ⊥) → lead_of b ≡ st 2 128 191 → Lead b
  f0 : b ≡ 240 → lead_of b ≡ st 3 144 191 → Lead b
  l4 : 241 ≤ b → b < 244 → lead_of b ≡ st 3 128 191 → Lead b
  f4 : b ≡ 244 → lead_of b ≡ st 3 128 143 → Lead b

pub leads : (b : ℕ) → Lead b
unfolding lead_of
leads b = go (ltb b 128) (ltb b 194) (ltb b 224) (eqb b 224) (eqb b 237) (ltb b 240) (eqb b 240) (ltb b 244) (eqb b 244) refl refl refl refl refl refl refl refl refl
  where
    go : (p1 p2 p3 p4 p5 p6 p7 p8 p9 : Bool) → ltb b 128 ≡ p1 → ltb b 194 ≡ p2 → ltb b 224 ≡ p3 → eqb b 224 ≡ p4 → eqb b 237 ≡ p5
        → ltb b 240 ≡ p6 → eqb b 240 ≡ p7 → ltb b 244 ≡ p8 → eqb b 244 ≡ p9 → Lead b
    go true p2 p3 p4 p5 p6 p7 p8 p9 a1 a2 a3 a4 a5 a6 a7 a8 a9 = ascii (ltb-true b 128 a1) (rw a1)
    go false true p3 p4 p5 p6 p7 p8 p9 a1 a2 a3 a4 a5 a6 a7 a8 a9 = wrong (rw (a1, a2)) (ltb-false b 128 a1, inl (ltb-true b 194 a2))
    go false false true p4 p5 p6 p7 p8 p9 a1 a2 a3 a4 a5 a6 a7 a8 a9 = l2 (ltb-false b 194 a2) (ltb-true b 224 a3) (rw (a1, a2, a3))
    go false false false true p5 p6 p7 p8 p9 a1 a2 a3 a4 a5 a6 a7 a8 a9 = e0 (eqb-true b 224 a4) (rw (a1, a2, a3, a4))
    go false false false false true p6 p7 p8 p9 a1 a2 a3 a4 a5 a6 a7 a8 a9 = ed (eqb-true b 237 a5) (rw (a1, a2, a3, a4, a5))
    go false false false false false true p7 p8 p9 a1 a2 a3 a4 a5 a6 a7 a8 a9 =
        let h = ltb-false b 224 a3 in let k = eqb-false b 224 a4 in
        l3 (omega arith) (ltb-true b 240 a6) (eqb-false b 237 a5) (rw (a1, a2, a3, a4, a5, a6))
    go false false false false false false true p8 p9 a1 a2 a3 a4 a5 a6 a7 a8 a9 = f0 (eqb-true b 240 a7) (rw (a1, a2, a3, a4, a5, a6, a7))
    go false false false false false false false true p9 a1 a2 a3 a4 a5 a6 a7 a8 a9 =
        let h = ltb-false b 240 a6 in let k = eqb-false b 240 a7 in
        l4 (omega arith) (ltb-true b 244 a8) (rw (a1, a2, a3, a4, a5, a6, a7, a8))
    go false false false false false false false false true a1 a2 a3 a4 a5 a6 a7 a8 a9 = f4 (eqb-true b 244 a9) (rw (a1, a2, a3, a4, a5, a6, a7, a8, a9))
    go false false false false false false false false false a1 a2 a3 a4 a5 a6 a7 a8 a9 =
        let h = ltb-false b 244 a8 in let k = eqb-false b 244 a9 in
        wrong (rw (a1, a2, a3, a4, a5, a6, a7, a8, a9)) (ltb-false b 128 a1, inr (omega arith))

-- ---- the bytes of a character lead back to the start

begin : (b : ℕ) (bs : List ℕ) → runs start (b ∷ bs) ≡ runs (lead_of b) bs
unfolding runs step_of
begin b bs = refl

cont : (k lo hi b : ℕ) (bs : List ℕ) → lo ≤ b → b ≤ hi → runs (st (suc k) lo hi) (b ∷ bs) ≡ runs (st k 128 191) bs
unfolding runs step_of
cont k lo hi b bs h g = rw (ne_eqb (suc k) 0 (omega arith), le-ltb b lo h, le-ltb hi b g, sub-one)

char2 : (c : ℕ) (t : List ℕ) → 0x80 ≤ c → c < 0x800 → Lead (192 + c / 64) → runs start (enc2 c ++ t) ≡ runs start t
char2 c t h k (l2 a b e) = begin _ _ ∙ rw e (cont 0 128 191 _ t (omega arith) (omega arith))
char2 c t h k (ascii a e) = absurd (omega arith)
char2 c t h k (wrong e a) = absurd (⊎_elim (λ p. omega arith) (λ p. omega arith) a.1)
char2 c t h k (e0 a e) = absurd (omega arith)
char2 c t h k (ed a e) = absurd (omega arith)
char2 c t h k (l3 a b d e) = absurd (omega arith)
char2 c t h k (f0 a e) = absurd (omega arith)
char2 c t h k (l4 a b e) = absurd (omega arith)
char2 c t h k (f4 a e) = absurd (omega arith)

char3 : (c : ℕ) (t : List ℕ) → 0x800 ≤ c → c < 0x10000 → Scalar c → Lead (224 + c / 4096) → runs start (enc3 c ++ t) ≡ runs start t
char3 c t h k s (e0 a e) = begin _ _ ∙ rw e (cont 1 160 191 _ _ (omega arith) (omega arith) ∙ cont 0 128 191 _ t (omega arith) (omega arith))
char3 c t h k s (ed a e) =
    begin _ _ ∙ rw e (cont 1 128 159 _ _ (omega arith) (⊎_elim (λ p. omega arith) (λ p. omega arith) s) ∙ cont 0 128 191 _ t (omega arith) (omega arith))
char3 c t h k s (l3 a b d e) = begin _ _ ∙ rw e (cont 1 128 191 _ _ (omega arith) (omega arith) ∙ cont 0 128 191 _ t (omega arith) (omega arith))
char3 c t h k s (ascii a e) = absurd (omega arith)
char3 c t h k s (wrong e a) = absurd (⊎_elim (λ p. omega arith) (λ p. omega arith) a.1)
char3 c t h k s (l2 a b e) = absurd (omega arith)
char3 c t h k s (f0 a e) = absurd (omega arith)
char3 c t h k s (l4 a b e) = absurd (omega arith)
char3 c t h k s (f4 a e) = absurd (omega arith)

char4 : (c : ℕ) (t : List ℕ) → 0x10000 ≤ c → c < 0x110000 → Lead (240 + c / 262144) → runs start (enc4 c ++ t) ≡ runs start t
char4 c t h k (f0 a e) =
    begin _ _ ∙ rw e (cont 2 144 191 _ _ (omega arith) (omega arith) ∙ cont 1 128 191 _ _ (omega arith) (omega arith) ∙ cont 0 128 191 _ t (omega arith) (omega arith))
char4 c t h k (l4 a b e) =
    begin _ _ ∙ rw e (cont 2 128 191 _ _ (omega arith) (omega arith) ∙ cont 1 128 191 _ _ (omega arith) (omega arith) ∙ cont 0 128 191 _ t (omega arith) (omega arith))
char4 c t h k (f4 a e) =
    begin _ _ ∙ rw e (cont 2 128 143 _ _ (omega arith) (omega arith) ∙ cont 1 128 191 _ _ (omega arith) (omega arith) ∙ cont 0 128 191 _ t (omega arith) (omega arith))
char4 c t h k (ascii a e) = absurd (omega arith)
char4 c t h k (wrong e a) = absurd (⊎_elim (λ p. omega arith) (λ p. omega arith) a.1)
char4 c t h k (l2 a b e) = absurd (omega arith)
char4 c t h k (e0 a e) = absurd (omega arith)
char4 c t h k (ed a e) = absurd (omega arith)
char4 c t h k (l3 a b d e) = absurd (omega arith)

char1 : (c : ℕ) (t : List ℕ) → c < 128 → runs start (c ∷ t) ≡ runs start t
unfolding lead_of
char1 c t h = begin c t ∙ rw (lt-ltb c 128 h)

char : (c : ℕ) (t : List ℕ) → Scalar c → Size c → runs start (encode c ++ t) ≡ runs start t
char c t s (one a e) = rw e (char1 c t a)
char c t s (two a b e) = rw e (char2 c t a b (leads _))
char c t s (three a b e) = rw e (char3 c t a b s (leads _))
char c t s (four a e) = rw e (char4 c t a (scalar_top c s) (leads _))

accepts : (cs : List ℕ) → Text cs → runs start (bytes_of cs) ≡ true
unfolding bytes_of runs
accepts [] t = refl
accepts (c ∷ cs) t = char c (bytes_of cs) t.0 (size c) ∙ accepts cs t.1

-- ---- what the machine accepts is the bytes of characters

never : {A : Type 0} (bs : List ℕ) → runs broken bs ≡ true → A
unfolding runs step_of
never [] e = absurd (false≢true e)
never (x ∷ bs) e = go (ltb x 1) (ltb 0 x) refl refl (never bs) e
  where
    go : {A : Type 0} (p q : Bool) → ltb x 1 ≡ p → ltb 0 x ≡ q → (runs broken bs ≡ true → A)
        → runs (cond p broken (cond q broken (st (1 - 1) 128 191))) bs ≡ true → A
    go true q a b f e = f e
    go false true a b f e = f e
    go false false a b f e = let h = ltb-false x 1 a in let k = ltb-false 0 x b in absurd (omega arith)

record Cont (k lo hi : ℕ) (bs : List ℕ) : Type 0 where
  x : ℕ
  r : List ℕ
  is : bs ≡ x ∷ r
  low : lo ≤ x
  high : x ≤ hi
  on : runs (st k 128 191) r ≡ true
  shorter : suc (length r) ≡ length bs

conts : (k lo hi : ℕ) (bs : List ℕ) → runs (st (suc k) lo hi) bs ≡ true → Cont k lo hi bs
unfolding runs step_of
conts k lo hi [] e = absurd (false≢true (sym (ne_eqb (suc k) 0 (omega arith)) ∙ e))
conts k lo hi (x ∷ bs) e = go (ltb x lo) (ltb hi x) refl refl (rw (ne_eqb (suc k) 0 (omega arith), sub-one) at e)
  where
    go : (p q : Bool) → ltb x lo ≡ p → ltb hi x ≡ q → runs (cond p broken (cond q broken (st k 128 191))) bs ≡ true → Cont k lo hi (x ∷ bs)
    go true q a b e = never bs e
    go false true a b e = never bs e
    go false false a b e = record { x = x; r = bs; is = refl; low = ltb-false x lo a; high = ltb-false hi x b; on = e; shorter = refl }

-- one character in front
front : (c : ℕ) (b : List ℕ) (bs r : List ℕ) → Scalar c → encode c ≡ b → bs ≡ b ++ r → Utf8 r → Utf8 bs
unfolding Utf8 bytes_of
front c b bs r s e f u = (c ∷ u.0, (s, u.1), rw (e, u.2, f))

of2 : (b x : ℕ) → 194 ≤ b → b < 224 → 128 ≤ x → x ≤ 191 → let c = (b - 192) * 64 + (x - 128) in Scalar c × (encode c ≡ b ∷ x ∷ [])
of2 b x h k l m =
    let c = (b - 192) * 64 + (x - 128) in
    let e : 192 + c / 64 ≡ b = omega arith in
    let f : 128 + c % 64 ≡ x = omega arith in
    (inl (omega arith), encode_2 c (omega arith) (omega arith) ∙ rw (e, f))

of3 : (b x y : ℕ) → 224 ≤ b → b < 240 → 128 ≤ x → x ≤ 191 → 128 ≤ y → y ≤ 191
    → let c = (b - 224) * 4096 + ((x - 128) * 64 + (y - 128)) in 0x800 ≤ c → Scalar c → Scalar c × (encode c ≡ b ∷ x ∷ y ∷ [])
of3 b x y h h' k k' l l' m s =
    let c = (b - 224) * 4096 + ((x - 128) * 64 + (y - 128)) in
    let e : 224 + c / 4096 ≡ b = omega arith in
    let f : 128 + c / 64 % 64 ≡ x = omega arith in
    let g : 128 + c % 64 ≡ y = omega arith in
    (s, encode_3 c m (omega arith) ∙ rw (e, f, g))

of4 : (b x y z : ℕ) → 240 ≤ b → b < 245 → 128 ≤ x → x ≤ 191 → 128 ≤ y → y ≤ 191 → 128 ≤ z → z ≤ 191
    → let c = (b - 240) * 262144 + ((x - 128) * 4096 + ((y - 128) * 64 + (z - 128))) in 0x10000 ≤ c → c < 0x110000 → Scalar c × (encode c ≡ b ∷ x ∷ y ∷ z ∷ [])
of4 b x y z h h' k k' l l' m m' n n' =
    let c = (b - 240) * 262144 + ((x - 128) * 4096 + ((y - 128) * 64 + (z - 128))) in
    let e : 240 + c / 262144 ≡ b = omega arith in
    let f : 128 + c / 4096 % 64 ≡ x = omega arith in
    let g : 128 + c / 64 % 64 ≡ y = omega arith in
    let i : 128 + c % 64 ≡ z = omega arith in
    (inr (omega arith, omega arith), encode_4 c n ∙ rw (e, f, g, i))

module _ (b : ℕ) (bs : List ℕ) (back : (r : List ℕ) → length r ≤ length bs → runs start r ≡ true → Utf8 r) where
  back2 : 194 ≤ b → b < 224 → runs (st 1 128 191) bs ≡ true → Utf8 (b ∷ bs)
  back2 h k e =
      let p = conts 0 128 191 bs e in
      let o = of2 b p.x h k p.low p.high in
      front _ _ (b ∷ bs) p.r o.0 o.1 (ap (λ l. b ∷ l) p.is) (back p.r (omega (arith, p.shorter)) p.on)

  back3 : (lo hi : ℕ) → 224 ≤ b → b < 240 → 128 ≤ lo → hi ≤ 191
      → ((x y : ℕ) → lo ≤ x → x ≤ hi → 128 ≤ y → y ≤ 191 → let c = (b - 224) * 4096 + ((x - 128) * 64 + (y - 128)) in (0x800 ≤ c) × Scalar c)
      → runs (st 2 lo hi) bs ≡ true → Utf8 (b ∷ bs)
  back3 lo hi h k l m f e =
      let p = conts 1 lo hi bs e in
      let q = conts 0 128 191 p.r p.on in
      let g = f p.x q.x p.low p.high q.low q.high in
      let t : 128 ≤ p.x = omega (arith, p.low) in
      let u : p.x ≤ 191 = omega (arith, p.high) in
      let o = of3 b p.x q.x h k t u q.low q.high g.0 g.1 in
      front _ _ (b ∷ bs) q.r o.0 o.1 (ap (λ l. b ∷ l) (p.is ∙ ap (λ l. p.x ∷ l) q.is)) (back q.r (omega (arith, p.shorter, q.shorter)) q.on)

  back4 : (lo hi : ℕ) → 240 ≤ b → b < 245 → 128 ≤ lo → hi ≤ 191
      → ((x y : ℕ) → lo ≤ x → x ≤ hi → y < 4096 → let c = (b - 240) * 262144 + ((x - 128) * 4096 + y) in (0x10000 ≤ c) × (c < 0x110000))
      → runs (st 3 lo hi) bs ≡ true → Utf8 (b ∷ bs)
  back4 lo hi h k l m f e =
      let p = conts 2 lo hi bs e in
      let q = conts 1 128 191 p.r p.on in
      let w = conts 0 128 191 q.r q.on in
      let t : 128 ≤ p.x = omega (arith, p.low) in
      let u : p.x ≤ 191 = omega (arith, p.high) in
      let v : (q.x - 128) * 64 + (w.x - 128) < 4096 = omega (arith, q.high, w.high) in
      let g = f p.x _ p.low p.high v in
      let o = of4 b p.x q.x w.x h k t u q.low q.high w.low w.high g.0 g.1 in
      front _ _ (b ∷ bs) w.r o.0 o.1 (ap (λ l. b ∷ l) (p.is ∙ ap (λ l. p.x ∷ l) (q.is ∙ ap (λ l. q.x ∷ l) w.is)))
      (back w.r (omega (arith, p.shorter, q.shorter, w.shorter)) w.on)

  back_at : Lead b → runs (lead_of b) bs ≡ true → Utf8 (b ∷ bs)
  back_at (ascii a q) e = front b (b ∷ []) (b ∷ bs) bs (inl (omega arith)) (encode_1 b a) refl (back bs (omega arith) (rw q at e))
  back_at (wrong q a) e = never bs (rw q at e)
  back_at (l2 a d q) e = back2 a d (rw q at e)
  back_at (e0 a q) e = back3 160 191 (omega arith) (omega arith) (omega arith) (omega arith) (λ x y i j k l. (omega arith, inl (omega arith))) (rw q at e)
  back_at (ed a q) e = back3 128 159 (omega arith) (omega arith) (omega arith) (omega arith) (λ x y i j k l. (omega arith, inl (omega arith))) (rw q at e)
  back_at (l3 a d n q) e = back3 128 191 (omega arith) d (omega arith) (omega arith) (λ x y i j k l. (omega arith, side x y i j k l (ltb b 237) refl)) (rw q at e)
    where
      side : (x y : ℕ) → 128 ≤ x → x ≤ 191 → 128 ≤ y → y ≤ 191 → (p : Bool) → ltb b 237 ≡ p → Scalar ((b - 224) * 4096 + ((x - 128) * 64 + (y - 128)))
      side x y i j k l true h = let m = ltb-true b 237 h in inl (omega arith)
      side x y i j k l false h = let m = ltb-false b 237 h in inr (omega arith, omega arith)
  back_at (f0 a q) e = back4 144 191 (omega arith) (omega arith) (omega arith) (omega arith) (λ x y i j k. (omega arith, omega arith)) (rw q at e)
  back_at (l4 a d q) e = back4 128 191 (omega arith) (omega arith) (omega arith) (omega arith) (λ x y i j k. (omega arith, omega arith)) (rw q at e)
  back_at (f4 a q) e = back4 128 143 (omega arith) (omega arith) (omega arith) (omega arith) (λ x y i j k. (omega arith, omega arith)) (rw q at e)

rejects : (n : ℕ) (bs : List ℕ) → length bs ≤ n → runs start bs ≡ true → Utf8 bs
unfolding Utf8 bytes_of
rejects zero [] h e = ([], tt, refl)
rejects zero (b ∷ bs) h e = absurd (omega arith)
rejects (suc n) [] h e = ([], tt, refl)
rejects (suc n) (b ∷ bs) h e = back_at b bs (λ r k. rejects n r (omega arith)) (leads b) (sym (begin b bs) ∙ e)

-- the machine accepts exactly what is UTF-8
pub utf8_iff : (bs : List ℕ) → (is_utf8 bs ≡ true) ↔ Utf8 bs
unfolding is_utf8 Utf8
utf8_iff bs = (rejects (length bs) bs (omega arith), λ u. sees u)
  where
    sees : Utf8 bs → runs start bs ≡ true
    sees u = sym (ap (runs start) u.2) ∙ accepts u.0 u.1
