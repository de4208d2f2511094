-- What an answer says, said of more.
use Rattle.std.proofs.Common.{◌≡◌, Result, Ok, Err, OnOk, IfOk}

pub ok_more : {T E : Type 0} (r : Result T E) (A B : Type 0) → (A → B) → OnOk r A → OnOk r B
ok_more (Ok x) A B f a = f a
ok_more (Err e) A B f a = a

pub by_ok : {T E : Type 0} (r : Result T E) (x : T) (A : Type 0) → r ≡ Ok x → OnOk r A → A
by_ok (Ok y) x A e a = a
by_ok (Err f) x A e a = absurd (cc)

pub if_ok_more : {T E : Type 0} (r : Result T E) (A B : T → Type 0) → ((x : T) → A x → B x) → IfOk r A → IfOk r B
if_ok_more (Ok x) A B f a = f x a
if_ok_more (Err e) A B f a = a

pub on_both : {T E : Type 0} (r : Result T E) (A B C : Type 0) → (A → B → C) → OnOk r A → OnOk r B → OnOk r C
on_both (Ok x) A B C f a b = f a b
on_both (Err e) A B C f a b = a
