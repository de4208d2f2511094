-- What an answer says, said of more.
use Rattle.std.proofs.Common.{Result, Ok, Err, OnOk, OnErr, IfOk, rules}

pub ok_more : {T E : Type 0} (r : Result T E) (A B : Type 0) → (A → B) → OnOk r A → OnOk r B
ok_more (Ok x) A B f a = f a
ok_more (Err e) A B f a = a

pub if_ok_more : {T E : Type 0} (r : Result T E) (A B : T → Type 0) → ((x : T) → A x → B x) → IfOk r A → IfOk r B
if_ok_more (Ok x) A B f a = f x a
if_ok_more (Err e) A B f a = a

pub if_err : {T E : Type 0} (r : Result T E) (A : Type 0) → A → OnErr r A
if_err (Ok x) A a = search rules
if_err (Err e) A a = a

pub err_more : {T E : Type 0} (r : Result T E) (A B : Type 0) → (A → B) → OnErr r A → OnErr r B
err_more (Ok x) A B f a = a
err_more (Err e) A B f a = f a
