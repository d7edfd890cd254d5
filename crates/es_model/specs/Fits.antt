-- Which requests name what is there, and which answers fit a request.
use Rattle.std.specs.Prelude.{◌≡◌, ⊤, Option, Some, None, List, [], ◌∷◌, length}
use Rattle.std.specs.List.{AllByRecursion}
use Rattle.property_keys.specs.declared.identifiers.ObjectId.{ObjectId}
use Rattle.property_keys.specs.declared.values.Value.{Value}
use Rattle.property_keys.specs.declared.values.Value.TheVariants as value
use Rattle.es_model.specs.declared.requests.Operation.{Operation}
use Rattle.es_model.specs.declared.requests.Operation.TheVariants as operation
use Rattle.es_model.specs.declared.requests.Request.{Request}
use Rattle.es_model.specs.declared.requests.Request.TheVariants.{GetOwn, Define, Has, Read, Write, Delete, Keys, Proto}
use Rattle.es_model.specs.declared.requests.Request.TheVariants.{SetProto, Extensible, Prevent, Call, Construct, Work, Print}
use Rattle.es_model.specs.declared.answers.Reply.{Reply}
use Rattle.es_model.specs.declared.answers.Reply.TheVariants as reply
use Rattle.es_model.specs.Completions.{Completion, Normal, Break, Continue, Return, Throw}
use Rattle.es_model.specs.World.{Lists}
use Rattle.es_model.specs.Known.{IsObject, IfThere, IsKnown, IsKnownKey, IsKnownComplete, IsKnownDescriptor, AreKnown}

-- ---- the kinds of values that an answer may have to have

abbrev pub IsObjectValue : Value → Type 0
IsObjectValue (value.Object o) = ⊤
IsObjectValue other = ⊥

abbrev pub IsTextValue : Value → Type 0
IsTextValue (value.Text t) = ⊤
IsTextValue other = ⊥

abbrev pub IsWholeValue : Value → Type 0
IsWholeValue (value.Whole n) = ⊤
IsWholeValue other = ⊥

abbrev pub IsPrimitive : Value → Type 0
IsPrimitive (value.Object o) = ⊥
IsPrimitive other = ⊤

-- ---- the kinds of replies

abbrev pub HasValue : (Value → Type 0) → Reply → Type 0
HasValue P (reply.Value v) = P v
HasValue P other = ⊥

abbrev pub HasFlag : Reply → Type 0
HasFlag (reply.Flag b) = ⊤
HasFlag other = ⊥

abbrev pub HasProperty : Reply → Type 0
HasProperty (reply.Property c) = ⊤
HasProperty other = ⊥

abbrev pub HasKeys : Reply → Type 0
HasKeys (reply.Keys ks) = ⊤
HasKeys other = ⊥

abbrev pub HasKey : Reply → Type 0
HasKey (reply.Key k) = ⊤
HasKey other = ⊥

abbrev pub HasProto : Reply → Type 0
HasProto (reply.Proto p) = ⊤
HasProto other = ⊥

abbrev pub HasList : Reply → Type 0
HasList (reply.List vs) = ⊤
HasList other = ⊥

abbrev pub HasWanted : Reply → Type 0
HasWanted (reply.Wanted d) = ⊤
HasWanted other = ⊥

abbrev pub FitsWork : Operation → Reply → Type 0
FitsWork operation.ToPrimitiveDefault r = HasValue IsPrimitive r
FitsWork operation.ToPrimitiveNumber r = HasValue IsPrimitive r
FitsWork operation.ToPrimitiveText r = HasValue IsPrimitive r
FitsWork operation.ToText r = HasValue IsTextValue r
FitsWork operation.ToWhole r = HasValue IsWholeValue r
FitsWork operation.ToKey r = HasKey r
FitsWork operation.ToWanted r = HasWanted r
FitsWork operation.ListFromArrayLike r = HasList r
FitsWork operation.KeysFromArrayLike r = HasKeys r
FitsWork operation.InstanceOf r = HasFlag r
FitsWork operation.OrdinaryHasInstance r = HasFlag r
FitsWork operation.LooselyEqual r = HasFlag r
FitsWork operation.LessThan r = HasFlag r

-- the kind of reply that a request has
abbrev pub FitsRequest : Request → Reply → Type 0
FitsRequest (GetOwn o k) r = HasProperty r
FitsRequest (Define o k wanted) r = HasFlag r
FitsRequest (Has o k) r = HasFlag r
FitsRequest (Read o k receiver site) r = HasValue (λ v. ⊤) r
FitsRequest (Write o k v receiver site) r = HasFlag r
FitsRequest (Delete o k) r = HasFlag r
FitsRequest (Keys o) r = HasKeys r
FitsRequest (Proto o) r = HasProto r
FitsRequest (SetProto o p) r = HasFlag r
FitsRequest (Extensible o) r = HasFlag r
FitsRequest (Prevent o) r = HasFlag r
FitsRequest (Call f this arguments) r = HasValue (λ v. ⊤) r
FitsRequest (Construct f arguments target) r = HasValue IsObjectValue r
FitsRequest (Work op operands) r = FitsWork op r
FitsRequest (Print line) r = HasValue (λ v. ⊤) r

-- ---- what a reply names is there

abbrev pub IsKnownReply : Lists → Reply → Type 0
IsKnownReply l (reply.Value v) = IsKnown l v
IsKnownReply l (reply.Flag b) = ⊤
IsKnownReply l (reply.Property c) = IfThere (IsKnownComplete l) c
IsKnownReply l (reply.Keys ks) = AllByRecursion (IsKnownKey l) ks
IsKnownReply l (reply.Key k) = IsKnownKey l k
IsKnownReply l (reply.Proto p) = IfThere (IsObject l) p
IsKnownReply l (reply.List vs) = AreKnown l vs
IsKnownReply l (reply.Wanted d) = IsKnownDescriptor l d

-- what a completion names is there
abbrev pub IsKnownCompletion : Lists → Completion → Type 0
IsKnownCompletion l (Normal r) = IsKnownReply l r
IsKnownCompletion l Break = ⊤
IsKnownCompletion l Continue = ⊤
IsKnownCompletion l (Return v) = IsKnown l v
IsKnownCompletion l (Throw v) = IsKnown l v

-- an answer fits a request: it is a throw, or a reply of the request's kind, and all that it names is there
abbrev pub Fits : Lists → Request → Completion → Type 0
Fits l q (Normal r) = FitsRequest q r × IsKnownReply l r
Fits l q (Throw v) = IsKnown l v
Fits l q other = ⊥

-- ---- what a request names is there

abbrev pub IsFlagValue : Value → Type 0
IsFlagValue (value.Bool b) = ⊤
IsFlagValue other = ⊥

-- two operands, and whether the left one is converted first (7.2.13)
abbrev pub HasThreeOperands : List Value → Type 0
HasThreeOperands (a ∷ b ∷ left_first ∷ []) = IsFlagValue left_first
HasThreeOperands other = ⊥

-- each operation has its number of operands
abbrev pub HasOperands : Operation → List Value → Type 0
HasOperands operation.InstanceOf operands = length operands ≡ 2
HasOperands operation.OrdinaryHasInstance operands = length operands ≡ 2
HasOperands operation.LooselyEqual operands = length operands ≡ 2
HasOperands operation.LessThan operands = HasThreeOperands operands
HasOperands other operands = length operands ≡ 1

abbrev pub IsKnownRequest : Lists → Request → Type 0
IsKnownRequest l (GetOwn o k) = IsObject l o × IsKnownKey l k
IsKnownRequest l (Define o k wanted) = IsObject l o × IsKnownKey l k × IsKnownDescriptor l wanted
IsKnownRequest l (Has o k) = IsObject l o × IsKnownKey l k
IsKnownRequest l (Read o k receiver site) = IsObject l o × IsKnownKey l k × IsKnown l receiver
IsKnownRequest l (Write o k v receiver site) = IsObject l o × IsKnownKey l k × IsKnown l v × IsKnown l receiver
IsKnownRequest l (Delete o k) = IsObject l o × IsKnownKey l k
IsKnownRequest l (Keys o) = IsObject l o
IsKnownRequest l (Proto o) = IsObject l o
IsKnownRequest l (SetProto o p) = IsObject l o × IfThere (IsObject l) p
IsKnownRequest l (Extensible o) = IsObject l o
IsKnownRequest l (Prevent o) = IsObject l o
IsKnownRequest l (Call f this arguments) = IsKnown l f × IsKnown l this × AreKnown l arguments
IsKnownRequest l (Construct f arguments target) = IsObject l f × AreKnown l arguments × IsObject l target
IsKnownRequest l (Work op operands) = HasOperands op operands × AreKnown l operands
IsKnownRequest l (Print line) = AllByRecursion IsTextValue line × AreKnown l line

-- the object whose internal method a request asks for, but for calls and constructions
abbrev pub object_in : Request → Option ObjectId
object_in (GetOwn o k) = Some o
object_in (Define o k wanted) = Some o
object_in (Has o k) = Some o
object_in (Read o k receiver site) = Some o
object_in (Write o k v receiver site) = Some o
object_in (Delete o k) = Some o
object_in (Keys o) = Some o
object_in (Proto o) = Some o
object_in (SetProto o p) = Some o
object_in (Extensible o) = Some o
object_in (Prevent o) = Some o
object_in other = None
